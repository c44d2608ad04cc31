-- A candidate keeps every board and every panel of the instance exactly once, and its sheets keep whatever an insertion keeps.
use Prim.Native.Nat.{ℕ}
use mathlib.Core.Path.{◌≡◌, refl, sym, ap, ◌∙◌, subst}
use mathlib.Core.List.{List, [], ◌∷◌, ◌++◌, map, append_assoc, append-nil, Memᴰ}
use mathlib.Core.Option.{Option, none, some, some-injective, none-ne-some}
use lib.Dec.{T, T_not, not_T, eqb, eqb→eq, eqb_refl}
use Rattle.lists.specs.Base.{◌>>=◌, ◌<|>◌, foldl, concat_map}
use Rattle.lists.specs.Elements.{Perm, keep, flip, also, All}
use Rattle.model.specs.declared.BaselineGuillotineHeuristic.{BaselineGuillotineHeuristic}
use Rattle.model.specs.declared.StockInstance.{StockInstance}
use Rattle.model.specs.declared.CutInstance.{CutInstance}
use Rattle.model.specs.declared.InstanceKey.{InstanceKey}
use Rattle.model.specs.Types.{cut_key, same_key}
use Rattle.model.specs.Sheet.{GuillotineSheet, Insertion, new_sheet, try_insert, making_of}
use Rattle.model.specs.Candidate.{Candidate, Taken, insert_in_bins, take_first_fitting_stock, remove_unused_cut, in_bins, on_new_board, unplaced, first_end, place_cut_first_fit, place_cuts, reinsert_unused_first_fit}
use Rattle.trust.specs.Admitted.{Differ, Distinct}
use Rattle.trust.specs.Proper.{Kept, boards_of, cuts_of, placed_cuts}
use Rattle.lists.proofs.Perm.{perm_refl, perm_sym, perm_append_left, perm_append_right, perm_middle, all_map, all_append, all_left, all_right, all_perm, pairs_perm, mem_perm}
use Rattle.lists.proofs.Sums.{map_append}
use Rattle.lists.proofs.Kept.{retain_all}
use Rattle.lists.proofs.Maps.{concat_map_append}
use Rattle.trust.proofs.Truth.{and_intro, and_split}
use Rattle.trust.proofs.Sheet.{try_insert_inserted}

pub inserted_cuts : (kerf : ℕ) (s : GuillotineSheet) (i : Insertion) (t : GuillotineSheet) → try_insert kerf s i ≡ some t → cuts_of t ≡ cuts_of s ++ (i.cut ∷ [])
unfolding cuts_of
inserted_cuts kerf s i t e = ap (map (λ (j : Insertion). j.cut)) (try_insert_inserted kerf s i t e).grown ∙ map_append (λ (j : Insertion). j.cut) (making_of s) (i ∷ [])

-- ---- one cut into the bins

-- P is what an insertion of this kind keeps
module _ (P : GuillotineSheet → Type 0) (kerf : ℕ) (i : Insertion)
    (keeps : (s t : GuillotineSheet) → try_insert kerf s i ≡ some t → P s → P t) where
  pub record Placed (bins bins' : List GuillotineSheet) : Type 0 where
    pub boards : boards_of bins' ≡ boards_of bins
    pub cuts : Perm (placed_cuts bins') (i.cut ∷ placed_cuts bins)
    pub sheets : All P bins → All P bins'

  pub insert_in_bins_placed : (bins bins' : List GuillotineSheet) → insert_in_bins kerf i bins ≡ some bins' → Placed bins bins'
  unfolding insert_in_bins concat_map
  insert_in_bins_placed [] bins' e = absurd (none-ne-some bins' e)
  insert_in_bins_placed (b ∷ bins) bins' e =
      go (try_insert kerf b i) refl (insert_in_bins kerf i bins) (λ bs. insert_in_bins_placed bins bs) e
    where
      here : (t : GuillotineSheet) → try_insert kerf b i ≡ some t → Placed (b ∷ bins) (t ∷ bins)
      here t f =
          record {
            boards = ap (λ (x : StockInstance). x ∷ boards_of bins) (try_insert_inserted kerf b i t f).same_stock;
            cuts =
                rw (inserted_cuts kerf b i t f, append_assoc (cuts_of b) (i.cut ∷ []) (placed_cuts bins)) (perm_middle (cuts_of b) i.cut (placed_cuts bins));
            sheets = λ h. (keeps b t f h.0, h.1);
          }

      there : (bs : List GuillotineSheet) → Placed bins bs → Placed (b ∷ bins) (b ∷ bs)
      there bs p =
          record {
            boards = ap {B = List StockInstance} (λ x. b.stock ∷ x) p.boards;
            cuts = also (perm_append_left (cuts_of b) p.cuts) (perm_middle (cuts_of b) i.cut (placed_cuts bins));
            sheets = λ h. (h.0, p.sheets h.1);
          }

      go : (o : Option GuillotineSheet) → try_insert kerf b i ≡ o → (q : Option (List GuillotineSheet))
          → ((bs : List GuillotineSheet) → q ≡ some bs → Placed bins bs)
          → ((o >>= λ t. some (t ∷ bins)) <|> (q >>= λ bs. some (b ∷ bs))) ≡ some bins' → Placed (b ∷ bins) bins'
      go (some t) f q later h = subst (Placed (b ∷ bins)) (some-injective _ _ h) (here t f)
      go none f none later h = absurd (none-ne-some bins' h)
      go none f (some bs) later h = subst (Placed (b ∷ bins)) (some-injective _ _ h) (there bs (later bs refl))

  -- ---- a new bin

  pub record Opened (stock : List StockInstance) (t : Taken) : Type 0 where
    pub boards : Perm (t.bin.stock ∷ t.stock) stock
    pub cuts : cuts_of t.bin ≡ i.cut ∷ []
    pub sheet : P t.bin

  pub take_first_opened : (stock : List StockInstance) → All (λ s. P (new_sheet s)) stock → (t : Taken) → take_first_fitting_stock kerf i stock ≡ some t → Opened stock t
  unfolding take_first_fitting_stock cuts_of new_sheet making_of
  take_first_opened [] h t e = absurd (none-ne-some t e)
  take_first_opened (s ∷ stock) h t e =
      go (try_insert kerf (new_sheet s) i) refl (take_first_fitting_stock kerf i stock) (λ u. take_first_opened stock h.1 u) e
    where
      here : (b : GuillotineSheet) → try_insert kerf (new_sheet s) i ≡ some b → Opened (s ∷ stock) (record { bin = b; stock = stock })
      here b f =
          record {
            boards = subst (λ (x : StockInstance). Perm (x ∷ stock) (s ∷ stock)) (sym (try_insert_inserted kerf (new_sheet s) i b f).same_stock) (perm_refl (s ∷ stock));
            cuts = inserted_cuts kerf (new_sheet s) i b f;
            sheet = keeps (new_sheet s) b f h.0;
          }

      there : (u : Taken) → Opened stock u → Opened (s ∷ stock) (record { bin = u.bin; stock = s ∷ u.stock })
      there u o = record { boards = also (flip _ _ _) (keep s o.boards); cuts = o.cuts; sheet = o.sheet }

      go : (o : Option GuillotineSheet) → try_insert kerf (new_sheet s) i ≡ o → (q : Option Taken) → ((u : Taken) → q ≡ some u → Opened stock u)
          → ((o >>= λ b. some (record { bin = b; stock = stock })) <|> (q >>= λ u. some (record { bin = u.bin; stock = s ∷ u.stock }))) ≡ some t
          → Opened (s ∷ stock) t
      go (some b) f q later k = subst (Opened (s ∷ stock)) (some-injective _ _ k) (here b f)
      go none f none later k = absurd (none-ne-some t k)
      go none f (some u) later k = subst (Opened (s ∷ stock)) (some-injective _ _ k) (there u (later u refl))

-- ---- lists of cuts with keys of their own

new_cuts : (bins : List GuillotineSheet) (t : Taken) {cut : CutInstance} → cuts_of t.bin ≡ cut ∷ [] → placed_cuts (bins ++ (t.bin ∷ [])) ≡ placed_cuts bins ++ (cut ∷ [])
unfolding concat_map
new_cuts bins t e = concat_map_append cuts_of bins (t.bin ∷ []) ∙ ap (λ (r : List CutInstance). placed_cuts bins ++ r) (append-nil (cuts_of t.bin) ∙ e)

-- equal keys are one key
pub same_key_eq : (a b : InstanceKey) → T (same_key a b) → a ≡ b
unfolding same_key
same_key_eq a b h =
    let t = and_split (eqb a.id b.id) (eqb a.instance b.instance) h in
    λ k. record { id = eqb→eq a.id b.id t.0 k; instance = eqb→eq a.instance b.instance t.1 k }

pub same_key_refl : (a : InstanceKey) → T (same_key a a)
unfolding same_key
same_key_refl a = and_intro (eqb a.id a.id) (eqb a.instance a.instance) (eqb_refl a.id) (eqb_refl a.instance)

pub differ_sym : (a b : CutInstance) → Differ a b → Differ b a
differ_sym a b h =
    not_T (same_key (cut_key b) (cut_key a)) λ t.
    T_not (same_key (cut_key a) (cut_key b)) h
    (subst (λ (k : InstanceKey). T (same_key (cut_key a) k)) (sym (same_key_eq (cut_key b) (cut_key a) t)) (same_key_refl (cut_key a)))

-- ---- a candidate under way: every board once, and every panel once, on a sheet, unused, or still to come

module _ (P : GuillotineSheet → Type 0) (kerf : ℕ) (stock : List StockInstance) (cuts : List CutInstance) where
  module _ (fresh : All (λ s. P (new_sheet s)) stock) (distinct : Distinct cuts)
      (keeps : (i : Insertion) (s t : GuillotineSheet) → Memᴰ i.cut cuts → try_insert kerf s i ≡ some t → P s → P t) where
    -- the cut under way comes first
    first : (c : Candidate) (cut : CutInstance) (later : List CutInstance) → Kept P stock cuts (cut ∷ later) c
        → Perm (cut ∷ (placed_cuts c.bins ++ (c.unused_cuts ++ later))) cuts
    first c cut later h =
        also (perm_sym (also (perm_append_left (placed_cuts c.bins) (perm_middle c.unused_cuts cut later)) (perm_middle (placed_cuts c.bins) cut (c.unused_cuts ++ later))))
        h.panels

    -- none of the unused cuts has its key
    unused_kept : (c : Candidate) (cut : CutInstance) (later : List CutInstance) → Kept P stock cuts (cut ∷ later) c → remove_unused_cut (cut_key cut) c.unused_cuts ≡ c.unused_cuts
    unfolding remove_unused_cut
    unused_kept c cut later h =
        let d : Distinct (cut ∷ (placed_cuts c.bins ++ (c.unused_cuts ++ later))) = pairs_perm Differ differ_sym (perm_sym (first c cut later h)) distinct in
        let u : All (Differ cut) c.unused_cuts = all_left _ c.unused_cuts later (all_right _ (placed_cuts c.bins) (c.unused_cuts ++ later) d.0) in
        retain_all _ c.unused_cuts (all_map (Differ cut) _ (λ x k. differ_sym cut x k) c.unused_cuts u)

    pub place_kept : (h : BaselineGuillotineHeuristic) (c : Candidate) (cut : CutInstance) (later : List CutInstance) → Kept P stock cuts (cut ∷ later) c
        → Kept P stock cuts later (place_cut_first_fit kerf h c cut)
    unfolding place_cut_first_fit first_end
    place_kept h c cut later k = ends (insert_in_bins kerf i c.bins) refl (take_first_fitting_stock kerf i c.available_stock) refl
      where
        i : Insertion
        i = record { cut = cut; heuristic = h }

        known : Memᴰ cut cuts
        known = mem_perm (first c cut later k) (Memᴰ.head refl)

        keep_i : (s t : GuillotineSheet) → try_insert kerf s i ≡ some t → P s → P t
        keep_i s t = keeps i s t known

        into : (bins : List GuillotineSheet) → insert_in_bins kerf i c.bins ≡ some bins → Kept P stock cuts later (in_bins c cut bins)
        into bins e =
            let p = insert_in_bins_placed P kerf i keep_i c.bins bins e in
            record {
              boards = rw p.boards k.boards;
              panels = rw (unused_kept c cut later k) (also (perm_append_right (c.unused_cuts ++ later) p.cuts) (first c cut later k));
              sheets = p.sheets k.sheets;
            }

        onto : (t : Taken) → take_first_fitting_stock kerf i c.available_stock ≡ some t → Kept P stock cuts later (on_new_board c cut t)
        onto t e =
            let free : All (λ s. P (new_sheet s)) c.available_stock = all_right _ (boards_of c.bins) c.available_stock (all_perm _ (perm_sym k.boards) fresh) in
            let o = take_first_opened P kerf i keep_i c.available_stock free t e in
            record {
              boards =
                  rw (map_append (λ (b : GuillotineSheet). b.stock) c.bins (t.bin ∷ []), append_assoc (boards_of c.bins) (t.bin.stock ∷ []) t.stock)
                  (also (perm_append_left (boards_of c.bins) o.boards) k.boards);
              panels =
                  rw (unused_kept c cut later k, new_cuts c.bins t o.cuts, append_assoc (placed_cuts c.bins) (cut ∷ []) (c.unused_cuts ++ later))
                  (also (perm_middle (placed_cuts c.bins) cut (c.unused_cuts ++ later)) (first c cut later k));
              sheets = all_append P c.bins (t.bin ∷ []) k.sheets (o.sheet, tt);
            }

        off : Kept P stock cuts later (unplaced c cut)
        off = record { boards = k.boards; panels = rw (append_assoc c.unused_cuts (cut ∷ []) later) k.panels; sheets = k.sheets }

        ends : (o : Option (List GuillotineSheet)) → insert_in_bins kerf i c.bins ≡ o → (q : Option Taken) → take_first_fitting_stock kerf i c.available_stock ≡ q
            → Kept P stock cuts later (first_end c cut o q)
        ends (some bins) e q f = into bins e
        ends none e (some t) f = onto t f
        ends none e none f = off

    pub places_kept : (h : BaselineGuillotineHeuristic) (c : Candidate) (later : List CutInstance) → Kept P stock cuts later c → Kept P stock cuts [] (place_cuts kerf h c later)
    unfolding place_cuts foldl
    places_kept h c [] k = k
    places_kept h c (cut ∷ later) k = places_kept h (place_cut_first_fit kerf h c cut) later (place_kept h c cut later k)

    pub reinsert_kept : (h : BaselineGuillotineHeuristic) (c : Candidate) → Kept P stock cuts [] c → Kept P stock cuts [] (reinsert_unused_first_fit kerf h c)
    unfolding reinsert_unused_first_fit
    reinsert_kept h c k =
        places_kept h _ c.unused_cuts (record { boards = k.boards; panels = subst (λ u. Perm (placed_cuts c.bins ++ u) cuts) (append-nil c.unused_cuts) k.panels; sheets = k.sheets })
