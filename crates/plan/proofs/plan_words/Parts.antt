-- The free rectangles' words and the nodes', each behind those before it.
use Prim.Native.Nat.{ℕ, ◌+◌, ◌*◌, ◌≤◌, ◌<◌}
use native.Mathlib.Numerals.{add-one}
use native.Mathlib.Omega.{arith}
use mathlib.Core.Path.{◌≡◌, refl, sym, ap, ◌∙◌}
use mathlib.Core.List.{List, [], ◌∷◌, ◌++◌, append-nil}
use lib.ListN.{length, get_or, take}
use lib.Seq.{take-suc, length-take-le}
use Rattle.lists.specs.Base.{concat_map}
use Rattle.lists.specs.Parts.{patch}
use Rattle.lists.proofs.Maps.{concat_map_append}
use Rattle.lists.proofs.Sums.{length_concat_map}
use Rattle.lists.proofs.Parts.{patch_nil, patch_append}
use Rattle.trust.proofs.RoundTrip.{node_size_lem}
use Rattle.model.specs.declared.Rect.{Rect}
use Rattle.model.specs.Plan.{rect_words}
use Rattle.guide.specs.declared.subtree.Node.{Node}
use Rattle.guide.specs.Nodes.{slice_node, words_of}

-- one more
part_step : {A : Type 0} (words : A → List ℕ) (w : List ℕ) (at : ℕ) (xs : List A) (i : ℕ) (d : A) → i < length xs → (k : ℕ) → k ≡ length (concat_map words (take i xs)) → at + k ≤ length w
    → patch (patch w at (concat_map words (take i xs))) (at + k) (words (get_or xs i d)) ≡ patch w at (concat_map words (take (i + 1) xs))
unfolding concat_map
part_step words w at xs i d h k size room =
    let first = take i xs in
    let x = get_or xs i d in
    patch_append w at (concat_map words first) (words x) (at + k) (omega arith) (omega arith)
    ∙ ap (patch w at)
    (ap (λ (l : List ℕ). concat_map words first ++ l) (sym (append-nil (words x))) ∙ sym (concat_map_append words first (x ∷ [])) ∙ ap (concat_map words) (rw (add-one, take-suc xs i d h)))

pub waste_none : (w : List ℕ) (at : ℕ) → w ≡ patch w at (concat_map rect_words [])
unfolding concat_map
waste_none = patch_nil

pub nodes_none : (w : List ℕ) (at : ℕ) → w ≡ patch w at (concat_map words_of [])
unfolding concat_map
nodes_none = patch_nil

pub waste_step : (w : List ℕ) (at : ℕ) (rs : List Rect) (i : ℕ) (d : Rect) → i < length rs → at + 4 * length rs ≤ length w
    → patch (patch w at (concat_map rect_words (take i rs))) (at + 4 * i) (rect_words (get_or rs i d)) ≡ patch w at (concat_map rect_words (take (i + 1) rs))
waste_step w at rs i d h room =
    let under : i ≤ length rs = omega arith in
    part_step rect_words w at rs i d h (4 * i) (omega (arith, length_concat_map 4 rect_words (λ r. refl) (take i rs), length-take-le i rs under)) (omega arith)

pub nodes_step : (w : List ℕ) (at : ℕ) (ns : List Node) (i : ℕ) (d : Node) → i < length ns → at + 8 * length ns ≤ length w
    → patch (patch w at (concat_map words_of (take i ns))) (at + 8 * i) (words_of (get_or ns i d)) ≡ patch w at (concat_map words_of (take (i + 1) ns))
nodes_step w at ns i d h room =
    let under : i ≤ length ns = omega arith in
    part_step words_of w at ns i d h (8 * i) (omega (arith, length_concat_map 8 words_of (λ n. node_size_lem (slice_node n)) (take i ns), length-take-le i ns under)) (omega arith)
