-- The blocks of a part in groups: those in front, the pieces of each block, and the mark of the end. Where no label stands twice, it tells the group and the block.
use Rattle.std.proofs.Common.{◌≡◌, inl, inr, ⊎_elim, ℕ, zero, suc, List, [], ◌∷◌, ◌++◌, refl, sym, ap, ◌∙◌, subst}
use Rattle.std.specs.Prelude.{Some, map, slice_get}
use Rattle.ir_laws.proofs.paths.source_rules.Locals.{Apart, listed_either, listed_left, listed_right}
use Rattle.run_laws.specs.flow_solver.Paths.{IsListed}
use Rattle.run_laws.specs.ir_model.declared.module.Block.{Block}
use Rattle.ir_laws.proofs.paths.uses.Sources.{IsIn}
use Rattle.ir_laws.proofs.facts.Numbers.{Source}
use Rattle.ir_laws.proofs.facts.uses.Sources.{label_of}
use Rattle.ir_laws.proofs.paths.replaced.Known.{listed_mapped}

-- in a row
abbrev pub joined : List (List Block) → List Block
joined [] = []
joined (cs ∷ css) = cs ++ joined css

-- ---- labels that are apart

abbrev pub labels : List Block → List ℕ
labels bs = map label_of bs

labels_joined : (xs ys : List Block) → labels (xs ++ ys) ≡ labels xs ++ labels ys
labels_joined [] ys = refl
labels_joined (x ∷ xs) ys = ap (λ (ns : List ℕ). x.label ∷ ns) (labels_joined xs ys)

module _ (xs ys : List Block) (h : Apart (labels (xs ++ ys))) where
  both : Apart (labels xs ++ labels ys)
  both = subst Apart (labels_joined xs ys) h

  left_of : (ns ms : List ℕ) → Apart (ns ++ ms) → Apart ns
  left_of [] ms k = tt
  left_of (n ∷ ns) ms k = ((λ l. k.0 (listed_left n ns ms l)), left_of ns ms k.1)

  right_of : (ns ms : List ℕ) → Apart (ns ++ ms) → Apart ms
  right_of [] ms k = k
  right_of (n ∷ ns) ms k = right_of ns ms k.1

  none_both : (ns ms : List ℕ) (n : ℕ) → Apart (ns ++ ms) → IsListed n ns → IsListed n ms → ⊥
  none_both [] ms n k a b = absurd a
  none_both (m ∷ ns) ms n k (inl e) b = k.0 (listed_right m ns ms (subst (λ (j : ℕ). IsListed j ms) e b))
  none_both (m ∷ ns) ms n k (inr a) b = none_both ns ms n k.1 a b

  pub apart_front : Apart (labels xs)
  apart_front = left_of (labels xs) (labels ys) both

  pub apart_back : Apart (labels ys)
  apart_back = right_of (labels xs) (labels ys) both

  pub no_label_twice : (c d : Block) → IsListed c xs → IsListed d ys → c.label ≡ d.label → ⊥
  no_label_twice c d a b e = none_both (labels xs) (labels ys) c.label both (listed_mapped label_of xs c a) (subst (λ (n : ℕ). IsListed n (labels ys)) (sym e) (listed_mapped label_of ys d b))

pub one_of : (xs : List Block) → Apart (labels xs) → (c d : Block) → IsListed c xs → IsListed d xs → c.label ≡ d.label → c ≡ d
one_of [] h c d a b e = absurd a
one_of (x ∷ xs) h c d (inl p) (inl q) e = p ∙ sym q
one_of (x ∷ xs) h c d (inl p) (inr q) e = absurd (h.0 (subst (λ (n : ℕ). IsListed n (labels xs)) (sym e ∙ ap label_of p) (listed_mapped label_of xs d q)))
one_of (x ∷ xs) h c d (inr p) (inl q) e = absurd (h.0 (subst (λ (n : ℕ). IsListed n (labels xs)) (e ∙ ap label_of q) (listed_mapped label_of xs c p)))
one_of (x ∷ xs) h c d (inr p) (inr q) e = one_of xs h.1 c d p q e

pub in_joined : (css : List (List Block)) (q : ℕ) (cs : List Block) (c : Block) → slice_get css q ≡ Some cs → IsListed c cs → IsListed c (joined css)
in_joined [] q cs c e l = absurd (cc)
in_joined (ds ∷ css) zero cs c e l = let same : cs ≡ ds = cc in listed_left c ds (joined css) (subst (IsListed c) same l)
in_joined (ds ∷ css) (suc q) cs c e l = listed_right c ds (joined css) (in_joined css q cs c e l)

-- a block of a row stands in one of its lists
pub from_joined : (css : List (List Block)) (c : Block) → IsListed c (joined css) → (q : ℕ) × ((cs : List Block) × ((slice_get css q ≡ Some cs) × IsListed c cs))
from_joined [] c l = absurd l
from_joined (ds ∷ css) c l = ⊎_elim (λ a. (0, (ds, (refl, a)))) (λ b. let x = from_joined css c b in (suc x.0, x.1)) (listed_either c ds (joined css) l)

one_group : (css : List (List Block)) → Apart (labels (joined css)) → (q r : ℕ) (cs ds : List Block) (c d : Block) → slice_get css q ≡ Some cs → slice_get css r ≡ Some ds → IsListed c cs → IsListed d ds → c.label ≡ d.label → (q ≡ r) × (c ≡ d)
one_group [] h q r cs ds c d a b k l e = absurd (cc)
one_group (xs ∷ css) h zero zero cs ds c d a b k l e =
    let left : cs ≡ xs = cc in
    let right : ds ≡ xs = cc in
    (refl, one_of xs (apart_front xs (joined css) h) c d (subst (IsListed c) left k) (subst (IsListed d) right l) e)
one_group (xs ∷ css) h zero (suc r) cs ds c d a b k l e = let left : cs ≡ xs = cc in absurd (no_label_twice xs (joined css) h c d (subst (IsListed c) left k) (in_joined css r ds d b l) e)
one_group (xs ∷ css) h (suc q) zero cs ds c d a b k l e = let right : ds ≡ xs = cc in absurd (no_label_twice xs (joined css) h d c (subst (IsListed d) right l) (in_joined css q cs c a k) (sym e))
one_group (xs ∷ css) h (suc q) (suc r) cs ds c d a b k l e = let x = one_group css (apart_back xs (joined css) h) q r cs ds c d a b k l e in (ap suc x.0, x.1)

-- ---- sources

module _ (head : List Block) (css : List (List Block)) (done : Block) (h : Apart (labels ((head ++ joined css) ++ done ∷ []))) where
  abbrev front : List Block
  front = head ++ joined css

  in_head : (c : Block) → IsListed c head → IsListed c front
  in_head c l = listed_left c head (joined css) l

  in_pieces : (q : ℕ) (c : Block) → IsIn head css done (Source.Of q) c → IsListed c (joined css)
  in_pieces q c l = in_joined css q l.0 c l.1.0 l.1.1

  front_apart : Apart (labels (head ++ joined css))
  front_apart = apart_front (head ++ joined css) (done ∷ []) h

  no_last : (c d : Block) → IsListed c (head ++ joined css) → d ≡ done → c.label ≡ d.label → ⊥
  no_last c d l e same = no_label_twice (head ++ joined css) (done ∷ []) h c d l (inl e) same

  no_head : (q : ℕ) (c d : Block) → IsListed c head → IsIn head css done (Source.Of q) d → c.label ≡ d.label → ⊥
  no_head q c d l m e = no_label_twice head (joined css) front_apart c d l (in_pieces q d m) e

  -- a label tells the block and where it comes from
  pub one_source : (x y : Source) (c d : Block) → IsIn head css done x c → IsIn head css done y d → c.label ≡ d.label → (x ≡ y) × (c ≡ d)
  one_source Source.Head Source.Head c d k l e = (refl, one_of head (apart_front head (joined css) front_apart) c d k l e)
  one_source Source.Head (Source.Of r) c d k l e = absurd (no_head r c d k l e)
  one_source Source.Head Source.Last c d k l e = absurd (no_last c d (in_head c k) l e)
  one_source (Source.Of q) Source.Head c d k l e = absurd (no_head q d c l k (sym e))
  one_source (Source.Of q) (Source.Of r) c d k l e =
      let x = one_group css (apart_back head (joined css) front_apart) q r k.0 l.0 c d k.1.0 l.1.0 k.1.1 l.1.1 e in
      (ap Source.Of x.0, x.1)
  one_source (Source.Of q) Source.Last c d k l e = absurd (no_last c d (listed_right c head (joined css) (in_pieces q c k)) l e)
  one_source Source.Last Source.Head c d k l e = absurd (no_last d c (in_head d l) k (sym e))
  one_source Source.Last (Source.Of r) c d k l e = absurd (no_last d c (listed_right d head (joined css) (in_pieces r d l)) k (sym e))
  one_source Source.Last Source.Last c d k l e = (refl, k ∙ sym l)

  pub source_there : (x : Source) (c : Block) → IsIn head css done x c → IsListed c ((head ++ joined css) ++ done ∷ [])
  source_there Source.Head c l = listed_left c (head ++ joined css) (done ∷ []) (in_head c l)
  source_there (Source.Of q) c l = listed_left c (head ++ joined css) (done ∷ []) (listed_right c head (joined css) (in_pieces q c l))
  source_there Source.Last c l = listed_right c (head ++ joined css) (done ∷ []) (inl l)

  pub source_of : (c : Block) → IsListed c ((head ++ joined css) ++ done ∷ []) → (x : Source) × IsIn head css done x c
  source_of c l =
      ⊎_elim
      (λ a. ⊎_elim (λ k. (Source.Head, k)) (λ k. let x = from_joined css c k in (Source.Of x.0, x.1)) (listed_either c head (joined css) a))
      (λ b. ⊎_elim (λ k. (Source.Last, k)) (λ none. absurd none) b)
      (listed_either c (head ++ joined css) (done ∷ []) l)

  apart_group : (ds : List (List Block)) (q : ℕ) (cs : List Block) → Apart (labels (joined ds)) → slice_get ds q ≡ Some cs → Apart (labels cs)
  apart_group [] q cs k e = absurd (cc)
  apart_group (xs ∷ ds) zero cs k e = let same : xs ≡ cs = cc in subst (λ (ys : List Block). Apart (labels ys)) same (apart_front xs (joined ds) k)
  apart_group (xs ∷ ds) (suc q) cs k e = apart_group ds q cs (apart_back xs (joined ds) k) e

  pub pieces_apart : (q : ℕ) (cs : List Block) → slice_get css q ≡ Some cs → Apart (labels cs)
  pieces_apart q cs e = apart_group css q cs (apart_back head (joined css) front_apart) e
