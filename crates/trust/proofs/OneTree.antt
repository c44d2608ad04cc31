-- What `one_tree` tests of a sheet's nodes: they are those of one tree, a cut before its first and its second child, or none.
use Rattle.std.specs.Prelude.{if◌then◌else◌}
use Prim.Native.Nat.{ℕ, zero, suc}
use native.Mathlib.Omega.{arith}
use mathlib.Core.Path.{◌≡◌, refl, sym, ap, ◌∙◌, subst}
use mathlib.Core.Logic.{◌⊎◌, inl, inr}
use mathlib.Core.Bool.{Bool, true, false, not}
use mathlib.Core.List.{List, [], ◌∷◌, ◌++◌, append-nil, append_assoc}
use lib.Dec.{T, eqb→eq}
use lib.ListN.{length}
use Rattle.lists.specs.Base.{is_empty, concat_map}
use Rattle.lists.specs.Elements.{All}
use Rattle.lists.proofs.Booleans.{is_true, is_false}
use Rattle.trust.specs.Words.{NodeIn}
use Rattle.trust.specs.InLayout.{is_cut, subtrees, one_tree}
use Rattle.trust.proofs.Truth.{of_true, or_right}

pub data Tree : Type 0 where
  fork : NodeIn → Tree → Tree → Tree
  tip : NodeIn → Tree

unfoldable pub nodes_of_tree : Tree → List NodeIn
nodes_of_tree (fork n a b) = n ∷ (nodes_of_tree a ++ nodes_of_tree b)
nodes_of_tree (tip n) = n ∷ []

-- the cuts are those that have children
unfoldable pub CutsFork : Tree → Type 0
CutsFork (fork n a b) = T (is_cut n) × CutsFork a × CutsFork b
CutsFork (tip n) = T (not (is_cut n))

-- ---- nodes that pass are a tree's

-- as many trees, one after the other
record Forest (n : ℕ) (nodes : List NodeIn) : Type 0 where
  trees : List Tree
  count : length trees ≡ n
  cuts : All CutsFork trees
  nodes_of : concat_map nodes_of_tree trees ≡ nodes

-- a cut takes the next two trees for its children
forked : (n : ℕ) (x : NodeIn) (xs : List NodeIn) → T (is_cut x) → (ts : List Tree) → length ts ≡ suc (suc n) → All CutsFork ts → concat_map nodes_of_tree ts ≡ xs → Forest (suc n) (x ∷ xs)
unfolding concat_map nodes_of_tree CutsFork
forked n x xs t [] c k e = absurd (omega arith)
forked n x xs t (a ∷ []) c k e = absurd (omega arith)
forked n x xs t (a ∷ b ∷ ts) c k e =
    record {
      trees = fork x a b ∷ ts;
      count = omega arith;
      cuts = ((t, k.0, k.1.0), k.1.1);
      nodes_of = ap {B = List NodeIn} (λ r. x ∷ r) (append_assoc (nodes_of_tree a) (nodes_of_tree b) (concat_map nodes_of_tree ts) ∙ e);
    }

tipped : (n : ℕ) (x : NodeIn) (xs : List NodeIn) → T (not (is_cut x)) → Forest n xs → Forest (suc n) (x ∷ xs)
unfolding concat_map nodes_of_tree CutsFork
tipped n x xs t f = record { trees = tip x ∷ f.trees; count = ap suc f.count; cuts = (t, f.cuts); nodes_of = ap {B = List NodeIn} (λ r. x ∷ r) f.nodes_of }

forest : (n : ℕ) (nodes : List NodeIn) → T (subtrees n nodes) → Forest n nodes
unfolding subtrees concat_map
forest n [] t = record { trees = []; count = sym (eqb→eq n 0 t); cuts = tt; nodes_of = refl }
forest zero (x ∷ xs) t = absurd t
forest (suc n) (x ∷ xs) t = go (is_cut x) refl t (λ m. forest m xs)
  where
    go : (b : Bool) → is_cut x ≡ b → T (subtrees (if b then suc (suc n) else n) xs) → ((m : ℕ) → T (subtrees m xs) → Forest m xs) → Forest (suc n) (x ∷ xs)
    go true e h later =
        let f = later (suc (suc n)) h in
        forked n x xs (of_true e) f.trees f.count f.cuts f.nodes_of
    go false e h later = tipped n x xs (subst (λ (b : Bool). T (not b)) (sym e) tt) (later n h)

pub one_tree_lem : (nodes : List NodeIn) → T (one_tree nodes) → (nodes ≡ []) ⊎ ((t : Tree) × CutsFork t × (nodes_of_tree t ≡ nodes))
unfolding one_tree concat_map
one_tree_lem [] t = inl refl
one_tree_lem (x ∷ xs) t =
    let f = forest 1 (x ∷ xs) t in
    inr (single f.trees f.count f.cuts f.nodes_of)
  where
    single : (ts : List Tree) → length ts ≡ 1 → All CutsFork ts → concat_map nodes_of_tree ts ≡ x ∷ xs → (t : Tree) × CutsFork t × (nodes_of_tree t ≡ x ∷ xs)
    single [] c k e = absurd (omega arith)
    single (a ∷ []) c k e = (a, k.0, sym (append-nil (nodes_of_tree a)) ∙ e)
    single (a ∷ b ∷ ts) c k e = absurd (omega arith)

-- ---- a tree's nodes pass

tree_passes : (t : Tree) (n : ℕ) (rest : List NodeIn) → CutsFork t → subtrees (suc n) (nodes_of_tree t ++ rest) ≡ subtrees n rest
unfolding subtrees nodes_of_tree CutsFork
tree_passes (fork x a b) n rest k =
    ap (λ (c : Bool). subtrees (if c then suc (suc n) else n) ((nodes_of_tree a ++ nodes_of_tree b) ++ rest)) (is_true (is_cut x) k.0)
    ∙ ap (subtrees (suc (suc n))) (append_assoc (nodes_of_tree a) (nodes_of_tree b) rest)
    ∙ tree_passes a (suc n) (nodes_of_tree b ++ rest) k.1
    ∙ tree_passes b n rest k.2
tree_passes (tip x) n rest k = ap (λ (c : Bool). subtrees (if c then suc (suc n) else n) rest) (is_false (is_cut x) k)

pub tree_is_one : (t : Tree) → CutsFork t → T (one_tree (nodes_of_tree t))
unfolding one_tree subtrees
tree_is_one t k =
    or_right (is_empty (nodes_of_tree t)) (subtrees 1 (nodes_of_tree t)) (of_true (ap (subtrees 1) (sym (append-nil (nodes_of_tree t))) ∙ tree_passes t 0 [] k))
