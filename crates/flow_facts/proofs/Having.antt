-- The facts of one function after another.
use Rattle.std.proofs.Common.{◌≡◌, ℕ, zero, suc, ◌+◌, ◌<◌, List, [], ◌∷◌, ◌++◌, length, take, get_or, Some, ap, sym, ◌∙◌, subst, arith, length-append}
use Rattle.std.specs.Prelude.{slice_get}
use Rattle.std.proofs.lemmas.List.{take_more}
use Rattle.ir_model.specs.declared.module.Function.{Function}
use Rattle.flow_points.specs.ir_paths.Facts.{AreFactsOf}
use Rattle.flow_points.specs.ir_paths.declared.point.Facts.{Facts}
use Rattle.flow_facts.specs.HaveFacts.{HaveFacts}

each-put : (xs : List Function) (ys : List Facts) (x : Function) (y : Facts) → length ys ≡ length xs → ((k : ℕ) (f : Function) (o : Facts) → slice_get xs k ≡ Some f → slice_get ys k ≡ Some o → AreFactsOf f o) → AreFactsOf x y →
    (k : ℕ) (f : Function) (o : Facts) → slice_get (xs ++ x ∷ []) k ≡ Some f → slice_get (ys ++ y ∷ []) k ≡ Some o → AreFactsOf f o
each-put [] [] x y len each own zero f o e k =
    let same : x ≡ f = cc in
    let these : y ≡ o = cc in
    subst (λ (z : Function). AreFactsOf z o) same (subst (AreFactsOf x) these own)
each-put [] [] x y len each own (suc n) f o e k = absurd (cc)
each-put [] (b ∷ ys) x y len each own n f o e k = absurd (omega arith)
each-put (a ∷ xs) [] x y len each own n f o e k = absurd (omega arith)
each-put (a ∷ xs) (b ∷ ys) x y len each own zero f o e k = each 0 f o e k
each-put (a ∷ xs) (b ∷ ys) x y len each own (suc n) f o e k = each-put xs ys x y (omega arith) (λ m. each (suc m)) own n f o e k

have-put : (xs : List Function) (ys : List Facts) (x : Function) (y : Facts) → HaveFacts xs ys → AreFactsOf x y → HaveFacts (xs ++ x ∷ []) (ys ++ y ∷ [])
have-put xs ys x y h own = record {
  count = let l = length-append ys (y ∷ []) in let r = length-append xs (x ∷ []) in let c = h.count in omega (arith, l, r, c);
  each = each-put xs ys x y h.count h.each own;
}

pub have-more : (functions : List Function) (i : ℕ) (x : Function) (facts next : List Facts) (own : Facts) → i < length functions → x ≡ get_or functions i x → AreFactsOf x own → next ≡ facts ++ own ∷ [] → HaveFacts (take i functions) facts → HaveFacts (take (i + 1) functions) next
have-more functions i x facts next own lt is are put before =
    subst (HaveFacts (take (i + 1) functions)) (sym put)
    (subst (λ (l : List Function). HaveFacts l (facts ++ own ∷ [])) (ap (λ (y : Function). take i functions ++ y ∷ []) is ∙ sym (take_more functions i x lt)) (have-put (take i functions) facts x own before are))
