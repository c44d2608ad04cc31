-- Populations in slots: a store or a copy behind the last candidate is one candidate more, and slots that are not written are as found.
use mathlib.Core.Path.{◌≡◌, refl, sym, ap, ap₂, ◌∙◌, subst}
use mathlib.Core.Logic.{◌⊎◌, inl, inr}
use mathlib.Core.List.{List, [], ◌∷◌, ◌++◌, map}
use Prim.Native.Nat.{ℕ, zero, suc, ◌+◌, ◌-◌, ◌*◌, ◌≤◌, ◌<◌}
use native.Mathlib.Nat.{not-suc-le-zero}
use native.Mathlib.Omega.{arith}
use native.Mathlib.Numerals.{add-one}
use lib.ListN.{length, get_or, take, drop}
use lib.Seq.{take-take, drop-drop}
use Rattle.lists.specs.Base.{count_from}
use Rattle.lists.specs.Parts.{part, patch}
use Rattle.lists.specs.Elements.{All}
use Rattle.lists.proofs.Perm.{all_append}
use Rattle.lists.proofs.Sums.{length-map, length_count_from, map_append}
use Rattle.lists.proofs.Counts.{count_snoc}
use Rattle.lists.proofs.Parts.{length_part, take_patch, drop_patch, part_patch, part_take}
use Rattle.model.specs.Candidate.{Candidate}
use Rattle.model.specs.Expand.{ProblemInstance}
use Rattle.trust.specs.Proper.{CandidateProper}
use Rattle.candidate.specs.declared.Candidate.{Candidate as Words}
use Rattle.candidate.specs.Stands.{candidate_in, Stands}
use Rattle.search.specs.Slots.{slot_words, slot_of, packed, unpacked, stored_in, store_in}
use Rattle.search.specs.Populations.{words_at, candidate_at, StandsAt, population_in, AllStand, OnlySlots}
use Rattle.search.proofs.stored.Storing.{cuts_of, length_packed, stored_count, stored_back}

-- ---- slots that are as found

module _ (lo hi : ℕ) (before after : List ℕ) (o : OnlySlots lo hi before after) where
  slot_low : (k : ℕ) → k < lo → slot_of after k ≡ slot_of before k
  slot_low k h =
      let fits : slot_words * k + slot_words ≤ slot_words * lo = omega arith in
      sym (part_take (slot_words * k) slot_words (slot_words * lo) after fits)
      ∙ ap (λ (l : List ℕ). part l (slot_words * k) slot_words) o.before_them
      ∙ part_take (slot_words * k) slot_words (slot_words * lo) before fits

  slot_high : (k : ℕ) → hi ≤ k → slot_of after k ≡ slot_of before k
  slot_high k h =
      let far : slot_words * hi + (slot_words * k - slot_words * hi) ≡ slot_words * k = omega arith in
      let from : (l : List ℕ) → drop (slot_words * k - slot_words * hi) (drop (slot_words * hi) l) ≡ drop (slot_words * k) l =
      λ l. drop-drop (slot_words * k - slot_words * hi) (slot_words * hi) l ∙ ap (λ (m : ℕ). drop m l) far
      in
      ap (take slot_words) (sym (from after) ∙ ap (drop (slot_words * k - slot_words * hi)) o.behind_them ∙ from before)

  pub slot_kept : (k : ℕ) → (k < lo) ⊎ (hi ≤ k) → slot_of after k ≡ slot_of before k
  slot_kept k (inl h) = slot_low k h
  slot_kept k (inr h) = slot_high k h

  -- more slots may differ
  pub only_wider : (l m : ℕ) → l ≤ lo → hi ≤ m → OnlySlots l m before after
  only_wider l m hl hm =
      let far : slot_words * hi + (slot_words * m - slot_words * hi) ≡ slot_words * m = omega arith in
      let from : (w : List ℕ) → drop (slot_words * m - slot_words * hi) (drop (slot_words * hi) w) ≡ drop (slot_words * m) w =
      λ w. drop-drop (slot_words * m - slot_words * hi) (slot_words * hi) w ∙ ap (λ (n : ℕ). drop n w) far
      in
      let fits : slot_words * l ≤ slot_words * lo = omega arith in
      record {
        before_them = sym (take-take (slot_words * l) (slot_words * lo) after fits) ∙ ap (take (slot_words * l)) o.before_them ∙ take-take (slot_words * l) (slot_words * lo) before fits;
        behind_them = sym (from after) ∙ ap (drop (slot_words * m - slot_words * hi)) o.behind_them ∙ from before;
      }

pub only_none : (lo hi : ℕ) (ws : List ℕ) → OnlySlots lo hi ws ws
only_none lo hi ws = record { before_them = refl; behind_them = refl }

pub only_then : (lo hi : ℕ) (a b c : List ℕ) → OnlySlots lo hi a b → OnlySlots lo hi b c → OnlySlots lo hi a c
only_then lo hi a b c o p = record { before_them = p.before_them ∙ o.before_them; behind_them = p.behind_them ∙ o.behind_them }

-- a patch within a slot
pub patch_only : (ws : List ℕ) (slot : ℕ) (b : List ℕ) → slot_words * slot ≤ length ws → length b ≤ slot_words → OnlySlots slot (slot + 1) ws (patch ws (slot_words * slot) b)
patch_only ws slot b h k =
    record {
      before_them = take_patch (slot_words * slot) ws (slot_words * slot) b (omega arith) h;
      behind_them = drop_patch ws (slot_words * slot) b (slot_words * (slot + 1)) (omega arith) h;
    }

-- ---- populations

module _ (inst : ProblemInstance) where
  pub population_length : (ws : List ℕ) (base n : ℕ) → length (population_in inst ws base n) ≡ n
  unfolding population_in
  population_length ws base n = length-map (candidate_at inst ws) (count_from base n) ∙ length_count_from base n

  pub same_slot : (ws ws' : List ℕ) (k : ℕ) → slot_of ws' k ≡ slot_of ws k → words_at inst ws' k ≡ words_at inst ws k
  unfolding stored_in
  same_slot ws ws' k e = ap (unpacked (length inst.cuts)) e

  pub same_at : (ws ws' : List ℕ) (k : ℕ) → slot_of ws' k ≡ slot_of ws k → candidate_at inst ws' k ≡ candidate_at inst ws k
  unfolding candidate_at
  same_at ws ws' k e = ap (candidate_in inst) (same_slot ws ws' k e)

  -- a slot with the words of one where a candidate stands
  pub stands_as : (ws ws' : List ℕ) (k k' : ℕ) → slot_of ws' k' ≡ slot_of ws k → StandsAt inst ws k → StandsAt inst ws' k'
  unfolding stored_in
  stands_as ws ws' k k' e s =
      record {
        stands = subst (λ (block : List ℕ). Stands inst [] (unpacked (length inst.cuts) block)) (sym e) s.stands;
        counted = subst (λ (block : List ℕ). get_or block 1 0 ≤ length inst.cuts) (sym e) s.counted;
      }

  abbrev SameFrom : List ℕ → List ℕ → ℕ → ℕ → Type 0
  SameFrom ws ws' base n = (k : ℕ) → base ≤ k → k < base + n → slot_of ws' k ≡ slot_of ws k

  same_population : (ws ws' : List ℕ) (base n : ℕ) → SameFrom ws ws' base n → population_in inst ws' base n ≡ population_in inst ws base n
  unfolding population_in count_from
  same_population ws ws' base zero h = refl
  same_population ws ws' base (suc n) h =
      ap₂ {C = List Candidate} (λ x xs. x ∷ xs) (same_at ws ws' base (h base (omega arith) (omega arith))) (same_population ws ws' (suc base) n (λ k b l. h k (omega arith) (omega arith)))

  same_standing : (ws ws' : List ℕ) (base n : ℕ) → SameFrom ws ws' base n → AllStand inst ws base n → AllStand inst ws' base n
  unfolding AllStand count_from
  same_standing ws ws' base zero h s = tt
  same_standing ws ws' base (suc n) h s =
      (stands_as ws ws' base base (h base (omega arith) (omega arith)) s.0, same_standing ws ws' (suc base) n (λ k b l. h k (omega arith) (omega arith)) s.1)

  module _ (lo hi : ℕ) (ws ws' : List ℕ) (o : OnlySlots lo hi ws ws') (base n : ℕ) (out : (base + n ≤ lo) ⊎ (hi ≤ base)) where
    outside : SameFrom ws ws' base n
    outside k b l = slot_kept lo hi ws ws' o k (go out)
      where
        go : (base + n ≤ lo) ⊎ (hi ≤ base) → (k < lo) ⊎ (hi ≤ k)
        go (inl h) = inl (omega arith)
        go (inr h) = inr (omega arith)

    pub population_kept : population_in inst ws' base n ≡ population_in inst ws base n
    population_kept = same_population ws ws' base n outside

    pub standing_kept : AllStand inst ws base n → AllStand inst ws' base n
    standing_kept = same_standing ws ws' base n outside

  -- ---- one candidate more

  pub population_none : (ws : List ℕ) (base : ℕ) → population_in inst ws base 0 ≡ []
  unfolding population_in count_from
  population_none ws base = refl

  pub standing_none : (ws : List ℕ) (base : ℕ) → AllStand inst ws base 0
  unfolding AllStand count_from
  standing_none ws base = tt

  pub population_snoc : (ws : List ℕ) (base n : ℕ) → population_in inst ws base (n + 1) ≡ population_in inst ws base n ++ (candidate_at inst ws (base + n) ∷ [])
  unfolding population_in
  population_snoc ws base n =
      ap (λ (m : ℕ). map (candidate_at inst ws) (count_from base m)) (add-one n)
      ∙ ap (map (candidate_at inst ws)) (count_snoc base n)
      ∙ map_append (candidate_at inst ws) (count_from base n) ((base + n) ∷ [])

  pub standing_snoc : (ws : List ℕ) (base n : ℕ) → AllStand inst ws base n → StandsAt inst ws (base + n) → AllStand inst ws base (n + 1)
  unfolding AllStand
  standing_snoc ws base n s k =
      subst (All (StandsAt inst ws)) (sym (ap (count_from base) (add-one n) ∙ count_snoc base n)) (all_append (StandsAt inst ws) (count_from base n) ((base + n) ∷ []) s (k, tt))

  -- one of them
  pub standing_at : (ws : List ℕ) (base n i : ℕ) → AllStand inst ws base n → i < n → StandsAt inst ws (base + i)
  unfolding AllStand count_from
  standing_at ws base zero i s h = absurd (not-suc-le-zero h)
  standing_at ws base (suc n) zero s h = let e : base ≡ base + 0 = omega arith in subst (StandsAt inst ws) e s.0
  standing_at ws base (suc n) (suc i) s h =
      let e : suc base + i ≡ base + suc i = omega arith in subst (StandsAt inst ws) e (standing_at ws (suc base) n i s.1 (omega arith))

  pub standing_front : (ws : List ℕ) (base m n : ℕ) → m ≤ n → AllStand inst ws base n → AllStand inst ws base m
  unfolding AllStand count_from
  standing_front ws base zero n h s = tt
  standing_front ws base (suc m) zero h s = absurd (not-suc-le-zero h)
  standing_front ws base (suc m) (suc n) h s = (s.0, standing_front ws (suc base) m n (omega arith) s.1)

  -- so each is a candidate of the search
  pub standing_proper : (ws : List ℕ) (base n : ℕ) → AllStand inst ws base n → All (CandidateProper inst) (population_in inst ws base n)
  unfolding AllStand population_in candidate_at count_from
  standing_proper ws base zero s = tt
  standing_proper ws base (suc n) s = (s.0.stands.proper, standing_proper ws (suc base) n s.1)

  pub population_at : (ws : List ℕ) (base n i : ℕ) (d : Candidate) → i < n → get_or (population_in inst ws base n) i d ≡ candidate_at inst ws (base + i)
  unfolding population_in count_from
  population_at ws base zero i d h = absurd (not-suc-le-zero h)
  population_at ws base (suc n) zero d h = let e : base ≡ base + 0 = omega arith in ap (candidate_at inst ws) e
  population_at ws base (suc n) (suc i) d h =
      let e : suc base + i ≡ base + suc i = omega arith in population_at ws (suc base) n i d (omega arith) ∙ ap (candidate_at inst ws) e

  -- the slot behind the last is written
  module _ (ws ws' : List ℕ) (base n : ℕ) (o : OnlySlots (base + n) (base + n + 1) ws ws') where
    population_push : population_in inst ws' base (n + 1) ≡ population_in inst ws base n ++ (candidate_at inst ws' (base + n) ∷ [])
    population_push =
        population_snoc ws' base n ∙ ap (λ (p : List Candidate). p ++ (candidate_at inst ws' (base + n) ∷ [])) (population_kept (base + n) (base + n + 1) ws ws' o base n (inl (omega arith)))

    standing_push : AllStand inst ws base n → StandsAt inst ws' (base + n) → AllStand inst ws' base (n + 1)
    standing_push s k = standing_snoc ws' base n (standing_kept (base + n) (base + n + 1) ws ws' o base n (inl (omega arith)) s) k

  -- ---- by a store

  module _ (ws : List ℕ) (slot : ℕ) (c : Words) (h : Stands inst [] c) (room : slot_words * slot + slot_words ≤ length ws) (few : length inst.cuts ≤ 64) where
    all : length inst.cuts ≡ cuts_of c
    all = omega (arith, h.counts)

    pub store_only : OnlySlots slot (slot + 1) ws (store_in ws slot c)
    unfolding store_in
    store_only = patch_only ws slot (packed c) (omega arith) (omega (arith, length_packed c h.room, all))

    -- the candidate comes back as it was
    pub store_back : words_at inst (store_in ws slot c) slot ≡ c
    store_back = ap (stored_in (store_in ws slot c) slot) all ∙ stored_back c h.room ws slot room (omega (arith, all))

    pub store_stands : StandsAt inst (store_in ws slot c) slot
    store_stands = record { stands = subst (Stands inst []) (sym store_back) h; counted = omega (arith, stored_count c h.room ws slot room (omega (arith, all)), all) }

    pub store_candidate : candidate_at inst (store_in ws slot c) slot ≡ candidate_in inst c
    unfolding candidate_at
    store_candidate = ap (candidate_in inst) store_back

  module _ (ws ws' : List ℕ) (base n : ℕ) (c : Words) (h : Stands inst [] c) (room : slot_words * (base + n) + slot_words ≤ length ws) (few : length inst.cuts ≤ 64)
      (e : ws' ≡ store_in ws (base + n) c) where
    pub pushed_only : OnlySlots (base + n) (base + n + 1) ws ws'
    pushed_only = subst (OnlySlots (base + n) (base + n + 1) ws) (sym e) (store_only ws (base + n) c h room few)

    pub pushed_population : population_in inst ws' base (n + 1) ≡ population_in inst ws base n ++ (candidate_in inst c ∷ [])
    pushed_population =
        population_push ws ws' base n pushed_only
        ∙ ap (λ (x : Candidate). population_in inst ws base n ++ (x ∷ [])) (ap (λ (l : List ℕ). candidate_at inst l (base + n)) e ∙ store_candidate ws (base + n) c h room few)

    pub pushed_stands : AllStand inst ws base n → AllStand inst ws' base (n + 1)
    pushed_stands s = standing_push ws ws' base n pushed_only s (subst (λ (l : List ℕ). StandsAt inst l (base + n)) (sym e) (store_stands ws (base + n) c h room few))

-- ---- by a copy

module _ (ws ws' : List ℕ) (from base n : ℕ) (room : slot_words * from + slot_words ≤ length ws) (there : slot_words * (base + n) + slot_words ≤ length ws)
    (e : ws' ≡ patch ws (slot_words * (base + n)) (slot_of ws from)) where
  pub copied_only : OnlySlots (base + n) (base + n + 1) ws ws'
  copied_only = subst (OnlySlots (base + n) (base + n + 1) ws) (sym e) (patch_only ws (base + n) (slot_of ws from) (omega arith) (omega (arith, length_part ws (slot_words * from) slot_words room)))

  pub copied_slot : slot_of ws' (base + n) ≡ slot_of ws from
  copied_slot =
      let b : List ℕ = slot_of ws from in
      ap (λ (l : List ℕ). slot_of l (base + n)) e
      ∙ part_patch ws (slot_words * (base + n)) b slot_words (omega arith)
      ∙ take_whole b (drop (slot_words * (base + n) + length b) ws) (length_part ws (slot_words * from) slot_words room)
    where
      take_whole : (p q : List ℕ) → length p ≡ slot_words → take slot_words (p ++ q) ≡ p
      take_whole p q s = lib.Seq.take_at p q slot_words s
