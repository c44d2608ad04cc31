-- A crossover child keeps every board and every panel: the donor's sheet rebuilt on its board, the other boards, the other panels unused.
use Rattle.std.specs.Prelude.{if◌then◌else◌}
use Prim.Native.Nat.{ℕ}
use mathlib.Core.Path.{◌≡◌, refl, sym, ap, ◌∙◌, subst}
use mathlib.Core.Logic.{◌⊎◌, inl, inr}
use mathlib.Core.Bool.{Bool, true, false, not, ◌||◌}
use mathlib.Core.List.{List, [], ◌∷◌, ◌++◌, map, append-nil, Memᴰ}
use mathlib.Core.Option.{none, some, some-injective, none-ne-some}
use lib.Dec.{T, T_not, not_T}
use Rattle.lists.specs.Base.{◌<|>◌, to_list, any, retain, find, enumerate, remove_at, concat_map}
use Rattle.lists.specs.Elements.{Perm, also, All, Pairs}
use Rattle.model.specs.declared.BaselineGuillotineHeuristic.{BaselineGuillotineHeuristic}
use Rattle.model.specs.declared.StockInstance.{StockInstance}
use Rattle.model.specs.declared.CutInstance.{CutInstance}
use Rattle.model.specs.declared.InstanceKey.{InstanceKey}
use Rattle.model.specs.Types.{stock_key, cut_key, same_key}
use Rattle.model.specs.Sheet.{GuillotineSheet, Insertion, new_sheet, try_insert, rebuild, sheet_keys, making_of}
use Rattle.model.specs.Candidate.{Candidate, contains_key, cuts_for_keys}
use Rattle.model.specs.Expand.{ProblemInstance}
use Rattle.model.specs.Search.{best_donor_bin, full_stock, crossover_child, child_of}
use Rattle.trust.specs.Admitted.{Differ, DifferBoards, Distinct}
use Rattle.trust.specs.Proper.{Kept, cuts_of, placed_cuts}
use Rattle.lists.proofs.Perm.{perm_sym, perm_append_left, all_map, all_right, pairs_perm, mem_perm, map_perm, remove_at_perm, in_all, all_self}
use Rattle.lists.proofs.Options.{fold_keeps, all_some, through}
use Rattle.lists.proofs.Every.{map_all}
use Rattle.lists.proofs.Kept.{retain_append, retain_none, retain_perm, retain_all}
use Rattle.lists.proofs.Booleans.{is_true, is_false}
use Rattle.trust.proofs.Placing.{At, enumerate_at}
use Rattle.trust.proofs.Candidate.{differ_sym, same_key_refl, same_key_eq}
use Rattle.trust.proofs.Sheet.{Inserted, all_inserted}
use Rattle.trust.proofs.Keys.{sheet_keys_cuts}
use Rattle.trust.proofs.Compact.{bin_panels, bin_found}
use Rattle.trust.proofs.Truth.{or_right}

-- ---- lists

-- every pair across two parts
cross : {A : Type 0} (R : A → A → Type 0) (xs ys : List A) → Pairs R (xs ++ ys) → All (λ y. All (λ x. R x y) xs) ys
cross R [] ys h = all_map _ _ (λ y k. tt) ys (all_self ys)
cross R (x ∷ xs) ys h = together ys (all_right (R x) xs ys h.0) (cross R xs ys h.1)
  where
    together : (zs : List _) → All (R x) zs → All (λ y. All (λ z. R z y) xs) zs → All (λ y. All (λ z. R z y) (x ∷ xs)) zs
    together [] a b = tt
    together (z ∷ zs) a b = ((a.0, b.0), together zs a.1 b.1)

find_all : {A : Type 0} (Q : A → Type 0) (p : A → Bool) (xs : List A) (x : A) → All Q xs → find p xs ≡ some x → Q x × T (p x)
unfolding find
find_all Q p [] x h e = absurd (none-ne-some x e)
find_all {A} Q p (y ∷ ys) x h e = go (p y) refl e (find_all Q p ys x h.1)
  where
    go : (b : Bool) → p y ≡ b → ((if b then some y else none) <|> find p ys) ≡ some x → (find p ys ≡ some x → Q x × T (p x)) → Q x × T (p x)
    go true f k later =
        let q = some-injective y x k in
        (subst Q q h.0, subst (λ (z : A). T (p z)) q (subst T (sym f) tt))
    go false f k later = later k

-- ---- the panels that the donor's sheet does not have

keys_in : (c : CutInstance) (cs : List CutInstance) → Memᴰ c cs → T (contains_key (cut_key c) (map cut_key cs))
unfolding contains_key any
keys_in c [] m = absurd (mathlib.Core.List.Memᴰ.not-nil m)
keys_in c (x ∷ cs) m = go (mathlib.Core.List.Memᴰ.cases_cons m) (keys_in c cs)
  where
    go : (c ≡ x) ⊎ Memᴰ c cs → (Memᴰ c cs → T (any (same_key (cut_key c)) (map cut_key cs))) → T (same_key (cut_key c) (cut_key x) || any (same_key (cut_key c)) (map cut_key cs))
    go (inl e) later = rw (is_true (same_key (cut_key c) (cut_key x)) (subst (λ (y : CutInstance). T (same_key (cut_key c) (cut_key y))) e (same_key_refl (cut_key c)))) tt
    go (inr k) later = or_right (same_key (cut_key c) (cut_key x)) _ (later k)

pub keys_out : (c : CutInstance) (cs : List CutInstance) → All (Differ c) cs → T (not (contains_key (cut_key c) (map cut_key cs)))
unfolding contains_key any
keys_out c [] h = tt
keys_out c (x ∷ cs) h = rw (is_false (same_key (cut_key c) (cut_key x)) h.0) (keys_out c cs h.1)

pub others_unused : (cuts cs others : List CutInstance) → Distinct cuts → Perm (cs ++ others) cuts
    → Perm (cs ++ retain (λ c. not (contains_key (cut_key c) (map cut_key cs))) cuts) cuts
others_unused cuts cs others d p =
    let q : CutInstance → Bool = λ c. not (contains_key (cut_key c) (map cut_key cs)) in
    let apart : Distinct (cs ++ others) = pairs_perm Differ differ_sym (perm_sym p) d in
    let gone : retain q cs ≡ [] = retain_none q cs (all_map (λ c. Memᴰ c cs) (λ c. T (not (q c))) (λ c m. twice (contains_key (cut_key c) (map cut_key cs)) (keys_in c cs m)) cs (all_self cs)) in
    let stay : retain q others ≡ others =
    retain_all q others (all_map (λ o. All (λ c. Differ c o) cs) (λ o. T (q o)) (λ o h. keys_out o cs (all_map (λ c. Differ c o) (Differ o) (λ c k. differ_sym c o k) cs h)) others (cross Differ cs others apart))
    in
    let left : Perm (retain q cuts) others = rw (retain_append q cs others, gone, stay) at (retain_perm q (perm_sym p)) in
    also (perm_append_left cs left) p
  where
    twice : (b : Bool) → T b → T (not (not b))
    twice true t = t
    twice false t = t

-- ---- the boards

pub key_sym : (a b : InstanceKey) → T (same_key a b) → T (same_key b a)
key_sym a b t = subst (λ (k : InstanceKey). T (same_key k a)) (same_key_eq a b t) (same_key_refl a)

pub board_sym : (a b : StockInstance) → DifferBoards a b → DifferBoards b a
board_sym a b h = not_T (same_key (stock_key b) (stock_key a)) λ t. T_not (same_key (stock_key a) (stock_key b)) h (key_sym (stock_key b) (stock_key a) t)

-- two boards of one key are one board
pub same_board : (stock : List StockInstance) (a b : StockInstance) → Pairs DifferBoards stock → Memᴰ a stock → Memᴰ b stock
    → T (same_key (stock_key a) (stock_key b)) → a ≡ b
same_board [] a b d m n t = absurd (mathlib.Core.List.Memᴰ.not-nil m)
same_board (x ∷ xs) a b d m n t = go (mathlib.Core.List.Memᴰ.cases_cons m) (mathlib.Core.List.Memᴰ.cases_cons n) (λ u v. same_board xs a b d.1 u v t)
  where
    flipped : T (same_key (stock_key b) (stock_key a))
    flipped = key_sym (stock_key a) (stock_key b) t

    go : (a ≡ x) ⊎ Memᴰ a xs → (b ≡ x) ⊎ Memᴰ b xs → (Memᴰ a xs → Memᴰ b xs → a ≡ b) → a ≡ b
    go (inl e) (inl f) later = e ∙ sym f
    go (inl e) (inr v) later = absurd (T_not (same_key (stock_key x) (stock_key b)) (in_all (DifferBoards x) xs d.0 v) (subst (λ (y : StockInstance). T (same_key (stock_key y) (stock_key b))) e t))
    go (inr u) (inl f) later = absurd (T_not (same_key (stock_key x) (stock_key a)) (in_all (DifferBoards x) xs d.0 u) (subst (λ (y : StockInstance). T (same_key (stock_key y) (stock_key a))) f flipped))
    go (inr u) (inr v) later = later u v

-- ---- what a child is made of

abbrev pub insertions : BaselineGuillotineHeuristic → List CutInstance → List Insertion
insertions row cs = map (λ c. record { cut = c; heuristic = row }) cs

cuts_back : (row : BaselineGuillotineHeuristic) (cs : List CutInstance) → map (λ (i : Insertion). i.cut) (insertions row cs) ≡ cs
cuts_back row [] = refl
cuts_back row (c ∷ cs) = ap {B = List CutInstance} (λ r. c ∷ r) (cuts_back row cs)

module _ (inst : ProblemInstance) (row : BaselineGuillotineHeuristic) (left : Candidate) where
  pub record Crossed (donor : GuillotineSheet) (child : Candidate) : Type 0 where
    pub cuts : List CutInstance
    pub known : cuts_for_keys inst.cuts (sheet_keys donor) ≡ some cuts
    pub bin : GuillotineSheet
    pub made : rebuild inst.kerf_width donor.stock (insertions row cuts) ≡ some bin
    pub place : ℕ × StockInstance
    pub found : find (λ s. same_key (stock_key s.1) (stock_key donor.stock)) (enumerate (full_stock left)) ≡ some place
    pub is : ◌≡◌ {A = Candidate} (record {
      bins = bin ∷ [];
      available_stock = remove_at place.0 (full_stock left);
      unused_cuts = retain (λ c. not (contains_key (cut_key c) (sheet_keys donor))) inst.cuts;
    }) child

  crossed : (donor : GuillotineSheet) (child : Candidate) → crossover_child inst row left donor ≡ some child → Crossed donor child
  unfolding crossover_child
  crossed donor child e =
      let a = through (cuts_for_keys inst.cuts (sheet_keys donor)) _ child e in
      let b = through (rebuild inst.kerf_width donor.stock (insertions row a.value)) _ child a.rest in
      let c = through (find (λ s. same_key (stock_key s.1) (stock_key donor.stock)) (enumerate (full_stock left))) _ child b.rest in
      record { cuts = a.value; known = a.first; bin = b.value; made = b.first; place = c.value; found = c.first; is = some-injective _ _ c.rest }

  pub child_all : (Q : Candidate → Type 0) (right : Candidate) → ((donor : GuillotineSheet) (child : Candidate) → best_donor_bin right ≡ some donor → Crossed donor child → Q child)
      → All Q (to_list (child_of inst row left right))
  unfolding child_of
  child_all Q right f =
      all_some Q (child_of inst row left right) λ child e.
      let d = through (best_donor_bin right) (λ donor. crossover_child inst row left donor) child e in
      f d.value child d.first (crossed d.value child d.rest)

-- ---- the donor's cuts on its board

module _ (P : GuillotineSheet → Type 0) (inst : ProblemInstance) (row : BaselineGuillotineHeuristic) (distinct : Distinct inst.cuts) (boards : Pairs DifferBoards inst.stock)
    (fresh : All (λ s. P (new_sheet s)) inst.stock)
    (keeps : (i : Insertion) (s t : GuillotineSheet) → Memᴰ i.cut inst.cuts → try_insert inst.kerf_width s i ≡ some t → P s → P t) where
  -- the child, for a donor that is a bin of a candidate which keeps all
  pub child_kept : (left right : Candidate) (donor : GuillotineSheet) (rest : List GuillotineSheet) (child : Candidate) → Perm right.bins (donor ∷ rest)
      → Kept P inst.stock inst.cuts [] left → Kept P inst.stock inst.cuts [] right
      → Crossed inst row left donor child → Kept P inst.stock inst.cuts [] child
  unfolding full_stock rebuild new_sheet cuts_of making_of concat_map
  child_kept left right donor rest child p l r x =
      subst (Kept P inst.stock inst.cuts []) x.is (record { boards = own_boards_lem; panels = own_panels_lem; sheets = (own_sheet, tt) })
    where
      cs : List CutInstance
      cs = cuts_of donor

      w : ℕ × StockInstance
      w = x.place

      panels : Perm (cs ++ (placed_cuts rest ++ right.unused_cuts)) inst.cuts
      panels = bin_panels P inst.kerf_width inst.stock inst.cuts distinct right donor rest p r

      donor_in : Memᴰ donor.stock inst.stock
      donor_in = mem_perm r.boards (mathlib.Core.List.Memᴰ.append_left right.available_stock (mem_perm (map_perm (λ (b : GuillotineSheet). b.stock) (perm_sym p)) (mathlib.Core.List.Memᴰ.head refl)))

      remade : rebuild inst.kerf_width donor.stock (insertions row cs) ≡ some x.bin
      remade =
          let same : x.cuts ≡ cs = some-injective _ _ (sym x.known ∙ bin_found P inst.kerf_width inst.stock inst.cuts distinct right donor rest p r) in
          subst (λ (l : List CutInstance). rebuild inst.kerf_width donor.stock (insertions row l) ≡ some x.bin) same x.made

      inserted : Inserted (new_sheet donor.stock) (insertions row cs) x.bin
      inserted = all_inserted inst.kerf_width (new_sheet donor.stock) x.bin (insertions row cs) remade

      own_boards_lem : Perm (x.bin.stock ∷ remove_at w.0 (full_stock left)) inst.stock
      own_boards_lem =
          let t = find_all (At donor.stock (full_stock left)) (λ s. same_key (stock_key s.1) (stock_key donor.stock)) (enumerate (full_stock left)) w
          (enumerate_at donor.stock (full_stock left)) x.found
          in
          let out : Perm (full_stock left) (w.1 ∷ remove_at w.0 (full_stock left)) =
          subst (λ (y : StockInstance). Perm (full_stock left) (y ∷ remove_at w.0 (full_stock left))) t.0.1 (remove_at_perm donor.stock (full_stock left) w.0 t.0.0)
          in
          let whole : Perm (full_stock left) inst.stock = l.boards in
          let one : w.1 ≡ donor.stock = same_board inst.stock w.1 donor.stock boards (mem_perm whole (mem_perm (perm_sym out) (mathlib.Core.List.Memᴰ.head refl))) donor_in t.1 in
          subst (λ (y : StockInstance). Perm (y ∷ remove_at w.0 (full_stock left)) inst.stock) (one ∙ sym inserted.same_stock) (also (perm_sym out) whole)

      own_panels_lem : Perm (placed_cuts (x.bin ∷ []) ++ (retain (λ c. not (contains_key (cut_key c) (sheet_keys donor))) inst.cuts ++ [])) inst.cuts
      own_panels_lem =
          let own : cuts_of x.bin ≡ cs = ap (map (λ (i : Insertion). i.cut)) inserted.grown ∙ cuts_back row cs in
          rw (append-nil (cuts_of x.bin), own, append-nil (retain (λ c. not (contains_key (cut_key c) (sheet_keys donor))) inst.cuts), sheet_keys_cuts donor)
          (others_unused inst.cuts cs (placed_cuts rest ++ right.unused_cuts) distinct panels)

      own_sheet : P x.bin
      own_sheet =
          let known : All (λ c. Memᴰ c inst.cuts) cs =
          all_map (λ c. Memᴰ c cs) (λ c. Memᴰ c inst.cuts) (λ c m. mem_perm panels (mathlib.Core.List.Memᴰ.append_left _ m)) cs (all_self cs)
          in
          fold_keeps (try_insert inst.kerf_width) P (λ i. Memᴰ i.cut inst.cuts) keeps (insertions row cs)
          (map_all (λ c. Memᴰ c inst.cuts) (λ i. Memᴰ i.cut inst.cuts) _ (λ c m. m) cs known) (new_sheet donor.stock) x.bin
          (in_all (λ s. P (new_sheet s)) inst.stock fresh donor_in) remade
