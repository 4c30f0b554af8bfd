-- A module with its names in the order of their first occurrence has as many coroutines and coro intrinsics: none.
use Rattle.std.proofs.Common.{◌≡◌, ◌∙◌, ◌&&◌, ℕ, Bool, true, List, [], ◌∷◌, Option, None, Some, map, not, refl}
use Rattle.std.specs.List.{list_all}
use Rattle.cli_answers.specs.compiler.NoCoroutine.{has_no_coroutine}
use Rattle.cli_answers.specs.compiler.pass_cleanup.Cleanup.{is_kept_callee, is_kept_declaration}
use Rattle.cli_answers.specs.compiler.pass_cleanup.Free.{each_instr, is_free}
use Rattle.ir_base.specs.declared.name.Name.{Name}
use Rattle.ir_model.specs.declared.instr.Instr.{Instr}
use Rattle.ir_model.specs.declared.module.Block.{Block}
use Rattle.ir_model.specs.declared.module.Function.{Function}
use Rattle.ir_model.specs.declared.module.Module.{Module}
use Rattle.ir_model.specs.declared.operand.Callee.{Callee}
use Rattle.text_canonical.specs.order.Order.{block_order, callee_order, function_order, instr_order, module_order, phi_order, result_order}
use Rattle.text_canonical.specs.order.Places.{each_order, local_order}

-- a test that each element passes as before
each_same : {A : Type 0} (f : A → List Name → A × List Name) (test : A → Bool)
    → ((x : A) (ns : List Name) → test (f x ns).0 ≡ test x) → (xs : List A) (ns : List Name)
    → list_all test (each_order f xs ns).0 ≡ list_all test xs
each_same f test same [] ns = refl
each_same f test same (x ∷ xs) ns = λ i. same x ns i && each_same f test same xs (f x ns).1 i

map_same : (f : Function → Function) (test : Function → Bool) → ((x : Function) → test (f x) ≡ test x)
    → (xs : List Function) → list_all test (map f xs) ≡ list_all test xs
map_same f test same [] = refl
map_same f test same (x ∷ xs) = λ i. same x i && map_same f test same xs i

callee_same : (names : List Name) (c : Callee) (ns : List Name) → is_kept_callee (callee_order names c ns).0 ≡ is_kept_callee c
callee_same names (Callee.Named n) ns = refl
callee_same names (Callee.Allocator a) ns = refl
callee_same names (Callee.Intrinsic i) ns = refl
callee_same names (Callee.Local i) ns = refl

instr_same : (names : List Name) (i : Instr) (ns : List Name) → is_free (instr_order names i ns).0 ≡ is_free i
instr_same names (Instr.Binary r op f t a b) ns = refl
instr_same names (Instr.Icmp r p t a b) ns = refl
instr_same names (Instr.Select r c a b) ns = refl
instr_same names (Instr.Cast r op nneg a t) ns = refl
instr_same names (Instr.Alloca r t n) ns = refl
instr_same names (Instr.Load r t p n) ns = refl
instr_same names (Instr.Store a p n) ns = refl
instr_same names (Instr.Gep r inbounds t p is) ns = refl
instr_same names (Instr.Call r must t c args) ns = callee_same names c (result_order names r ns).1

block_same : (names : List Name) (b : Block) (ns : List Name)
    → list_all is_free (block_order names b ns).0.instrs ≡ list_all is_free b.instrs
block_same names b ns =
    each_same (instr_order names) is_free (instr_same names) b.instrs
    (each_order (phi_order names) b.phis (local_order names b.label ns).1).1

abbrev blocks_free : Function → Bool
blocks_free f = list_all (λ (b : Block). list_all is_free b.instrs) f.blocks

function_same : (f : Function) → blocks_free (function_order f) ≡ blocks_free f
function_same f =
    each_same (block_order f.names) (λ (b : Block). list_all is_free b.instrs) (block_same f.names) f.blocks _

pub order_has_none : (m : Module) → has_no_coroutine m ≡ true → has_no_coroutine (module_order m) ≡ true
order_has_none m none = same ∙ none
  where
    same : has_no_coroutine (module_order m) ≡ has_no_coroutine m
    same = λ i.
        map_same function_order (λ (f : Function). not f.coroutine) (λ f. refl) m.functions i
        && (map_same function_order blocks_free function_same m.functions i
        && list_all is_kept_declaration m.declarations)
