-- Compaction keeps every board and every panel.
use Rattle.std.specs.Prelude.{if◌then◌else◌}
use Prim.Native.Nat.{ℕ}
use mathlib.Core.Path.{◌≡◌, refl, sym, ap, ◌∙◌, subst}
use mathlib.Core.Bool.{Bool, true, false}
use mathlib.Core.List.Memᴰ
use mathlib.Core.List.{List, [], ◌∷◌, ◌++◌, append_assoc, append-nil, Memᴰ}
use mathlib.Core.Option.{Option, none, some, get_or, some-injective}
use lib.Dec.{ltb}
use lib.ListN.{length}
use Rattle.lists.specs.Base.{enumerate, remove_at, concat_map}
use Rattle.lists.specs.Elements.{Perm, also}
use Rattle.model.specs.declared.StockInstance.{StockInstance}
use Rattle.model.specs.declared.CutInstance.{CutInstance}
use Rattle.model.specs.Sheet.{GuillotineSheet, sheet_keys}
use Rattle.model.specs.Candidate.{Candidate, cuts_for_keys, worst_bin, compacted, compact_worst_bin}
use Rattle.trust.specs.Proper.{Kept, boards_of, cuts_of, placed_cuts}
use Rattle.trust.specs.Admitted.{Distinct}
use Rattle.lists.proofs.Perm.{perm_sym, perm_append_left, perm_append_right, perm_append_comm, perm_middle, all_map, all_perm, mem_perm, map_perm, concat_map_perm, remove_at_perm, all_self}
use Rattle.lists.proofs.Options.{through}
use Rattle.trust.proofs.Placing.{At, enumerate_at, first_best_all}
use Rattle.trust.proofs.Keys.{cuts_for_keys_known, sheet_keys_cuts}

-- what a candidate has, with its worst bin and without, its compaction has
pub without_worst : (Q : Candidate → Type 0) (cuts : List CutInstance) (c : Candidate) → Q c
    → ((w : ℕ × GuillotineSheet) (removed : List CutInstance) → worst_bin c.bins ≡ some w → cuts_for_keys cuts (sheet_keys w.1) ≡ some removed
    → Q (record { bins = remove_at w.0 c.bins; available_stock = c.available_stock ++ (w.1.stock ∷ []); unused_cuts = c.unused_cuts ++ removed }))
    → Q (compact_worst_bin cuts c)
unfolding compact_worst_bin compacted
without_worst Q cuts c k f = go (ltb (length c.bins) 2)
  where
    from : (o : Option Candidate) → compacted cuts c ≡ o → Q (get_or o c)
    from none e = k
    from (some d) e =
        let w = through (worst_bin c.bins) _ d e in
        let r = through (cuts_for_keys cuts (sheet_keys w.value.1)) _ d w.rest in
        subst Q (some-injective _ _ r.rest) (f w.value r.value w.first r.first)

    go : (b : Bool) → Q (if b then c else get_or (compacted cuts c) c)
    go true = k
    go false = from (compacted cuts c) refl

module _ (P : GuillotineSheet → Type 0) (kerf : ℕ) (stock : List StockInstance) (cuts : List CutInstance) (distinct : Distinct cuts) where
  -- the cuts of a bin are panels of the instance, and are found by their keys
  pub bin_panels : (c : Candidate) (b : GuillotineSheet) (rest : List GuillotineSheet) → Perm c.bins (b ∷ rest) → Kept P stock cuts [] c
      → Perm (cuts_of b ++ (placed_cuts rest ++ c.unused_cuts)) cuts
  unfolding concat_map
  bin_panels c b rest p k =
      let a : Perm (placed_cuts c.bins ++ c.unused_cuts) cuts = subst (λ u. Perm (placed_cuts c.bins ++ u) cuts) (append-nil c.unused_cuts) k.panels in
      rw (← append_assoc (cuts_of b) (placed_cuts rest) c.unused_cuts) (also (perm_append_right c.unused_cuts (perm_sym (concat_map_perm cuts_of p))) a)

  pub bin_found : (c : Candidate) (b : GuillotineSheet) (rest : List GuillotineSheet) → Perm c.bins (b ∷ rest) → Kept P stock cuts [] c
      → cuts_for_keys cuts (sheet_keys b) ≡ some (cuts_of b)
  bin_found c b rest p k =
      ap (cuts_for_keys cuts) (sheet_keys_cuts b)
      ∙ cuts_for_keys_known cuts (cuts_of b) distinct
      (all_map (λ x. Memᴰ x (cuts_of b)) (λ x. Memᴰ x cuts) (λ x m. mem_perm (bin_panels c b rest p k) (Memᴰ.append_left _ m)) (cuts_of b) (all_self (cuts_of b)))

  compacted_kept : (c : Candidate) (w : ℕ × GuillotineSheet) → At w.1 c.bins w → Kept P stock cuts [] c
      → Kept P stock cuts [] (record { bins = remove_at w.0 c.bins; available_stock = c.available_stock ++ (w.1.stock ∷ []); unused_cuts = c.unused_cuts ++ cuts_of w.1 })
  compacted_kept c w at k =
      let rest = remove_at w.0 c.bins in
      let p : Perm c.bins (w.1 ∷ rest) = subst (λ (x : GuillotineSheet). Perm c.bins (x ∷ rest)) at.1 (remove_at_perm w.1 c.bins w.0 at.0) in
      let cs = cuts_of w.1 in
      record {
        boards =
            also (also (perm_append_left (boards_of rest) (perm_append_comm c.available_stock (w.1.stock ∷ []))) (perm_middle (boards_of rest) w.1.stock c.available_stock))
            (also (perm_append_right c.available_stock (perm_sym (map_perm (λ (b : GuillotineSheet). b.stock) p))) k.boards);
        panels =
            rw (append-nil (c.unused_cuts ++ cs), ← append_assoc (placed_cuts rest) c.unused_cuts cs)
            (also (perm_append_comm (placed_cuts rest ++ c.unused_cuts) cs) (bin_panels c w.1 rest p k));
        sheets = (all_perm P p k.sheets).1;
      }

  pub compact_kept : (c : Candidate) → Kept P stock cuts [] c → Kept P stock cuts [] (compact_worst_bin cuts c)
  unfolding worst_bin
  compact_kept c k =
      without_worst (Kept P stock cuts []) cuts c k λ w removed e f.
      let at : At w.1 c.bins w = first_best_all (At w.1 c.bins) _ (enumerate c.bins) w (enumerate_at w.1 c.bins) e in
      let rest = remove_at w.0 c.bins in
      let p : Perm c.bins (w.1 ∷ rest) = subst (λ (x : GuillotineSheet). Perm c.bins (x ∷ rest)) at.1 (remove_at_perm w.1 c.bins w.0 at.0) in
      let same : cuts_of w.1 ≡ removed = some-injective _ _ (sym (bin_found c w.1 rest p k) ∙ f) in
      subst (λ (l : List CutInstance). Kept P stock cuts [] (record { bins = rest; available_stock = c.available_stock ++ (w.1.stock ∷ []); unused_cuts = c.unused_cuts ++ l })) same (compacted_kept c w at k)
