-- Going along the indices of a getelementptr.
use Rattle.std.proofs.Common.{◌≡◌, ℕ, ◌+◌, ◌-◌, ◌<◌, ◌≤◌, List, [], ◌∷◌, length, take, drop, get_or, refl, ap, sym, ◌∙◌, arith, suc, Option}
use Rattle.ir_paths.specs.ir_model.Layout.{unnamed}
use Rattle.ir_paths.specs.ir_model.Ty.{Ty}
use Rattle.ir_paths.specs.ir_model.declared.operand.Arg.{Arg}
use Rattle.ir_paths.specs.ir_model.declared.module.Module.{Module}
use Rattle.run_step.specs.Values.{Env, arg_value, index_of, indices_of, inner_distance, number_at, part_at, plus}
use Rattle.run_step.proofs.Lists.{drop-next, drop-end}

pub distance-next : (m : Module) (env : Env) (xs : List Arg) (i : ℕ) (x : Arg) (ty under next : Ty) (d d2 all part index : Option ℕ) → i < length xs → x ≡ get_or xs i x → index ≡ index_of (number_at x.ty (arg_value m env x)) → under ≡ unnamed m ty → part ≡ (part_at m under index).0 → next ≡ (part_at m under index).1 → d2 ≡ plus d part → all ≡ inner_distance m ty d (indices_of m env (drop i xs)) → all ≡ inner_distance m next d2 (indices_of m env (drop (i + 1) xs))
distance-next m env xs i x ty under next d d2 all part index lt e is u p n s h =
    let rest = indices_of m env (drop (i + 1) xs) in
    h
    ∙ ap (λ l. inner_distance m ty d (indices_of m env l)) (drop-next xs i x lt e)
    ∙ ap (λ k. inner_distance m (part_at m (unnamed m ty) k).1 (plus d (part_at m (unnamed m ty) k).0) rest) (sym is)
    ∙ ap (λ t. inner_distance m (part_at m t index).1 (plus d (part_at m t index).0) rest) (sym u)
    ∙ ap (λ k. inner_distance m (part_at m under index).1 (plus d k) rest) (sym p)
    ∙ ap (λ t. inner_distance m t (plus d part) rest) (sym n)
    ∙ ap (λ k. inner_distance m next k rest) (sym s)

pub distance-end : (m : Module) (env : Env) (xs : List Arg) (i : ℕ) (ty : Ty) (d all : Option ℕ) → i ≡ length xs → all ≡ inner_distance m ty d (indices_of m env (drop i xs)) → d ≡ all
distance-end m env xs i ty d all e h = sym (h ∙ ap (λ l. inner_distance m ty d (indices_of m env l)) (drop-end xs i e))

take-all : {A : Type 0} (xs : List A) → take (length xs) xs ≡ xs
take-all [] = refl
take-all (x ∷ xs) = ap (λ (l : List _). x ∷ l) (take-all xs)

-- what is left behind the first element
pub rest-is : {A : Type 0} (xs : List A) → 1 ≤ length xs → take (length xs - 1) (drop 1 xs) ≡ drop 1 xs
rest-is [] h = absurd (omega arith)
rest-is (x ∷ xs) h = let e : suc (length xs) - 1 ≡ length xs = omega arith in ap (λ n. take n xs) e ∙ take-all xs
