-- `reading::read_full` meets its contract: what a read gives stands behind what was read before.
use Rattle.std.proofs.Common.{◌≡◌, ℕ, ◌+◌, ◌≤◌, List, ◌++◌, arith, length, take, drop, sym, ap, ◌∙◌, subst, le_refl, drop_at, length-take-le}
use Rattle.std.proofs.lemmas.Slice.{take-put_mid_below}
use Rattle.std.specs.Io.KnownBytes.{Consumes}
use Rattle.std.proofs.KnownBytes.{Consumes-trans}
use borrow.Rule.Slice.PartMut.{put_mid, post_of}
use lib.Seq.{take-add, take-append-le}
use Rattle.reading.proofs.read_full.Goals as goal

-- the bytes before a part, and the first that were put there
take-put_mid_more : (a k n : ℕ) (xs ys : List ℕ) → a ≤ length xs → n ≤ length ys → take a xs ++ take n ys ≡ take (a + n) (put_mid a k xs ys)
take-put_mid_more a k n xs ys within fits =
    let after = post_of a k xs in
    let new = put_mid a k xs ys in
    let part : take n (drop a new) ≡ take n ys = ap (take n) (drop_at (take a xs) (ys ++ after) a (length-take-le a xs within)) ∙ take-append-le n ys after fits in
    ap (λ l. l ++ take n ys) (sym (take-put_mid_below a k xs ys a (le_refl _) within)) ∙ ap (λ l. take a new ++ l) (sym part) ∙ sym (take-add a n new)

pub loop-size-preserved : goal.loop-size-preserved
loop-size-preserved g c =
    record {
      within = omega (arith, c.in_ok-count.ensures.bound.0);
      bytes = subst (Consumes _ _) (take-put_mid_more _ _ _ _ _ c.loop-size.invariant.within c.in_ok-count.ensures.bound.0) (Consumes-trans _ _ _ _ _ c.loop-size.invariant.bytes c.in_ok-count.ensures.bytes.0);
    }
