-- Cuts found by their keys, in a catalogue whose keys are distinct.
use Rattle.std.specs.Prelude.{if◌then◌else◌}
use mathlib.Core.Path.{◌≡◌, refl, sym, ap, subst}
use mathlib.Core.Logic.{◌⊎◌, inl, inr}
use mathlib.Core.List.Memᴰ
use mathlib.Core.List.{List, [], ◌∷◌, map, Memᴰ}
use mathlib.Core.Option.{Option, none, some}
use lib.Dec.{T}
use Rattle.lists.specs.Base.{◌>>=◌, ◌<|>◌, find, map_option}
use Rattle.lists.specs.Elements.{All}
use Rattle.model.specs.declared.CutInstance.{CutInstance}
use Rattle.model.specs.declared.InstanceKey.{InstanceKey}
use Rattle.model.specs.Types.{cut_key, same_key}
use Rattle.model.specs.Sheet.{GuillotineSheet, PlacedPiece, sheet_keys, making_of}
use Rattle.model.specs.Candidate.{cut_for_key, cuts_for_keys}
use Rattle.trust.specs.Proper.{cuts_of}
use Rattle.trust.specs.Admitted.{Differ, Distinct}
use Rattle.lists.proofs.Perm.{in_all}
use Rattle.lists.proofs.Booleans.{is_true, is_false}
use Rattle.trust.proofs.Candidate.{same_key_refl}

pub cut_for_key_known : (catalog : List CutInstance) (c : CutInstance) → Distinct catalog → Memᴰ c catalog → cut_for_key catalog (cut_key c) ≡ some c
unfolding cut_for_key find
cut_for_key_known [] c d m = absurd (Memᴰ.not-nil m)
cut_for_key_known (x ∷ xs) c d m = go (Memᴰ.cases_cons m) (cut_for_key_known xs c d.1)
  where
    go : (c ≡ x) ⊎ Memᴰ c xs → (Memᴰ c xs → find (λ y. same_key (cut_key y) (cut_key c)) xs ≡ some c)
        → ((if same_key (cut_key x) (cut_key c) then some x else none) <|> find (λ y. same_key (cut_key y) (cut_key c)) xs) ≡ some c
    go (inl e) later =
        rw (is_true (same_key (cut_key x) (cut_key c)) (subst (λ (y : CutInstance). T (same_key (cut_key y) (cut_key c))) e (same_key_refl (cut_key c))))
        (ap {B = Option CutInstance} some (sym e))
    go (inr k) later = rw (is_false (same_key (cut_key x) (cut_key c)) (in_all (Differ x) xs d.0 k)) (later k)

pub cuts_for_keys_known : (catalog cs : List CutInstance) → Distinct catalog → All (λ c. Memᴰ c catalog) cs → cuts_for_keys catalog (map cut_key cs) ≡ some cs
unfolding cuts_for_keys map_option
cuts_for_keys_known catalog [] d h = refl
cuts_for_keys_known catalog (c ∷ cs) d h =
    rw (cut_for_key_known catalog c d h.0) (ap (λ (o : Option (List CutInstance)). o >>= λ ys. some (c ∷ ys)) (cuts_for_keys_known catalog cs d h.1))

pub sheet_keys_cuts : (s : GuillotineSheet) → sheet_keys s ≡ map cut_key (cuts_of s)
unfolding sheet_keys cuts_of making_of
sheet_keys_cuts s = go s.placed_pieces
  where
    go : (ps : List PlacedPiece) → map (λ (p : PlacedPiece). cut_key p.by.cut) ps ≡ map cut_key (map (λ i. i.cut) (map (λ (p : PlacedPiece). p.by) ps))
    go [] = refl
    go (p ∷ ps) = ap {B = List InstanceKey} (λ r. cut_key p.by.cut ∷ r) (go ps)
