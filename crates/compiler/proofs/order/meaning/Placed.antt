-- What a function sets has its place in the names in the order of their first occurrence.
use Rattle.std.proofs.Common.{◌≡◌, ℕ, List, [], ◌∷◌, append-nil, sym, Option, Some, None}
use Rattle.std.specs.Prelude.{slice_get}
use Rattle.ir_base.specs.declared.name.Name.{Name}
use Rattle.ir_model.specs.declared.instr.Case.{Case}
use Rattle.ir_model.specs.declared.instr.Incoming.{Incoming}
use Rattle.ir_model.specs.declared.instr.Instr.{Instr}
use Rattle.ir_model.specs.declared.instr.Phi.{Phi}
use Rattle.ir_model.specs.declared.instr.Terminator.{Terminator}
use Rattle.ir_model.specs.declared.module.Block.{Block}
use Rattle.ir_model.specs.declared.module.Function.{Function}
use Rattle.ir_model.specs.declared.module.Param.{Param}
use Rattle.ir_model.specs.declared.operand.Arg.{Arg}
use Rattle.ir_model.specs.declared.operand.Callee.{Callee}
use Rattle.ir_model.specs.declared.operand.Operand.{Operand}
use Rattle.text_canonical.proofs.order.Holds.{placed_is}
use Rattle.text_canonical.specs.order.Order.{arg_order, block_order, callee_order, case_order, function_order, incoming_order, instr_order, operand_order, param_order, phi_order, result_order, term_order}
use Rattle.text_canonical.specs.order.Places.{each_order, local_order, placed, placed_if}
use Rattle.text_canonical.specs.order.Shape.{Each, IsBlock, IsFunction, IsInstr, IsParam, IsPhi, IsPlaced, IsSet}
use Rattle.pass_proofs.specs.rule_laws.texts.order_meaning.Held.{HoldsResults, IsBlockPlaced, IsParamPlaced, IsPhiPlaced, SetsPlaced}
use Rattle.text_canonical.proofs.grammar.Again.{Extends}
use Rattle.text_canonical.proofs.grammar.Names.{place_extends, place_found}
use Rattle.pass_proofs.proofs.rule_laws.texts.order_rules.Ordered.{each_of}

-- ---- the names only become more

module _ (names all : List Name) where
  -- all names begin with those before it, where they begin with those behind it
  abbrev Grows : List Name → List Name → Type 0
  Grows ns more = Extends all more → Extends all ns

  local_grows : (i : ℕ) (ns : List Name) → Grows ns (local_order names i ns).1
  local_grows i ns = on (slice_get names i)
    where
      on : (o : Option Name) → Extends all (placed_if o i ns).1 → Extends all ns
      on None e = e
      on (Some n) e = place_extends n (placed n ns).0 (placed_is n ns) e

  each_grows : {A : Type 0} (f : A → List Name → A × List Name) → ((x : A) (ns : List Name) → Grows ns (f x ns).1) → (xs : List A) (ns : List Name) → Grows ns (each_order f xs ns).1
  each_grows f h [] ns e = e
  each_grows f h (x ∷ xs) ns e = h x ns (each_grows f h xs (f x ns).1 e)

  operand_grows : (x : Operand) (ns : List Name) → Grows ns (operand_order names x ns).1
  operand_grows (Operand.Local i) ns e = local_grows i ns e
  operand_grows (Operand.Global n) ns e = e
  operand_grows (Operand.Number z) ns e = e
  operand_grows Operand.True ns e = e
  operand_grows Operand.False ns e = e
  operand_grows Operand.Null ns e = e
  operand_grows Operand.None ns e = e
  operand_grows Operand.Poison ns e = e

  arg_grows : (a : Arg) (ns : List Name) → Grows ns (arg_order names a ns).1
  arg_grows a ns e = operand_grows a.value ns e

  args_grow : (args : List Arg) (ns : List Name) → Grows ns (each_order (arg_order names) args ns).1
  args_grow args ns e = each_grows (arg_order names) arg_grows args ns e

  callee_grows : (c : Callee) (ns : List Name) → Grows ns (callee_order names c ns).1
  callee_grows (Callee.Local i) ns e = local_grows i ns e
  callee_grows (Callee.Named n) ns e = e
  callee_grows (Callee.Allocator a) ns e = e
  callee_grows (Callee.Intrinsic i) ns e = e

  incoming_grows : (i : Incoming) (ns : List Name) → Grows ns (incoming_order names i ns).1
  incoming_grows i ns e = operand_grows i.value ns (local_grows i.from (operand_order names i.value ns).1 e)

  case_grows : (c : Case) (ns : List Name) → Grows ns (case_order names c ns).1
  case_grows c ns e = arg_grows c.arg ns (local_grows c.target (arg_order names c.arg ns).1 e)

  term_grows : (t : Terminator) (ns : List Name) → Grows ns (term_order names t ns).1
  term_grows (Terminator.Jump l) ns e = local_grows l ns e
  term_grows (Terminator.Branch c l m) ns e =
      operand_grows c ns (local_grows l (operand_order names c ns).1 (local_grows m (local_order names l (operand_order names c ns).1).1 e))
  term_grows (Terminator.Switch a l cases) ns e =
      arg_grows a ns (local_grows l (arg_order names a ns).1 (each_grows (case_order names) case_grows cases (local_order names l (arg_order names a ns).1).1 e))
  term_grows (Terminator.Ret None) ns e = e
  term_grows (Terminator.Ret (Some a)) ns e = arg_grows a ns e
  term_grows Terminator.Unreachable ns e = e

  -- ---- what is set has a place, and the names before it

  -- what is asked of what comes of a part holds where all names begin with those behind it, which are no fewer than those before it
  record Sets {A : Type 0} (P : A → Type 0) (ns : List Name) (r : A × List Name) : Type 0 where
    grows : Extends all r.1 → Extends all ns
    holds : Extends all r.1 → P r.0

  local_set : (i : ℕ) (ns : List Name) → IsPlaced names i → Sets (IsPlaced all) ns (local_order names i ns)
  local_set i ns h = record { grows = local_grows i ns; holds = on (slice_get names i) h }
    where
      on : (o : Option Name) → (n : Name) × (o ≡ Some n) → Extends all (placed_if o i ns).1 → IsPlaced all (placed_if o i ns).0
      on None d e = absurd (cc (d.1))
      on (Some n) d e = (n, place_found n (placed n ns).0 (placed_is n ns) e)

  result_set : (r : Option ℕ) (ns : List Name) → IsSet names r → Sets (IsSet all) ns (result_order names r ns)
  result_set None ns h = record { grows = λ e. e; holds = λ e. tt }
  result_set (Some r) ns h = let a = local_set r ns h in record { grows = a.grows; holds = a.holds }

  each_set : {A : Type 0} (f : A → List Name → A × List Name) (P Q : A → Type 0) → ((x : A) (ns : List Name) → P x → Sets Q ns (f x ns)) → (xs : List A) (ns : List Name) → Each P xs → Sets (Each Q) ns (each_order f xs ns)
  each_set f P Q step [] ns h = record { grows = λ e. e; holds = λ e. tt }
  each_set f P Q step (x ∷ xs) ns h =
      let a = step x ns h.0 in
      let b = each_set f P Q step xs (f x ns).1 h.1 in
      record { grows = λ e. a.grows (b.grows e); holds = λ e. (a.holds (b.grows e), b.holds e) }

  instr_set : (x : Instr) (ns : List Name) → IsInstr names x → Sets (SetsPlaced all) ns (instr_order names x ns)
  instr_set (Instr.Binary r op f t a b) ns h =
      let n1 = (local_order names r ns).1 in
      let n2 = (operand_order names a n1).1 in
      let x = local_set r ns h.0 in
      record { grows = λ e. x.grows (operand_grows a n1 (operand_grows b n2 e)); holds = λ e. x.holds (operand_grows a n1 (operand_grows b n2 e)) }
  instr_set (Instr.Icmp r p t a b) ns h =
      let n1 = (local_order names r ns).1 in
      let n2 = (operand_order names a n1).1 in
      let x = local_set r ns h.0 in
      record { grows = λ e. x.grows (operand_grows a n1 (operand_grows b n2 e)); holds = λ e. x.holds (operand_grows a n1 (operand_grows b n2 e)) }
  instr_set (Instr.Select r c a b) ns h =
      let n1 = (local_order names r ns).1 in
      let n2 = (operand_order names c n1).1 in
      let n3 = (arg_order names a n2).1 in
      let x = local_set r ns h.0 in
      record {
        grows = λ e. x.grows (operand_grows c n1 (arg_grows a n2 (arg_grows b n3 e)));
        holds = λ e. x.holds (operand_grows c n1 (arg_grows a n2 (arg_grows b n3 e)));
      }
  instr_set (Instr.Cast r op nneg a t) ns h =
      let n1 = (local_order names r ns).1 in
      let x = local_set r ns h.0 in
      record { grows = λ e. x.grows (arg_grows a n1 e); holds = λ e. x.holds (arg_grows a n1 e) }
  instr_set (Instr.Alloca r t n) ns h = let x = local_set r ns h.0 in record { grows = x.grows; holds = x.holds }
  instr_set (Instr.Load r t p n) ns h =
      let n1 = (local_order names r ns).1 in
      let x = local_set r ns h.0 in
      record { grows = λ e. x.grows (operand_grows p n1 e); holds = λ e. x.holds (operand_grows p n1 e) }
  instr_set (Instr.Store a p n) ns h = record { grows = λ e. arg_grows a ns (operand_grows p (arg_order names a ns).1 e); holds = λ e. tt }
  instr_set (Instr.Gep r inbounds t p is) ns h =
      let n1 = (local_order names r ns).1 in
      let n2 = (operand_order names p n1).1 in
      let x = local_set r ns h.0 in
      record { grows = λ e. x.grows (operand_grows p n1 (args_grow is n2 e)); holds = λ e. x.holds (operand_grows p n1 (args_grow is n2 e)) }
  instr_set (Instr.Call r must t c args) ns h =
      let n1 = (result_order names r ns).1 in
      let n2 = (callee_order names c n1).1 in
      let x = result_set r ns h.0 in
      record { grows = λ e. x.grows (callee_grows c n1 (args_grow args n2 e)); holds = λ e. x.holds (callee_grows c n1 (args_grow args n2 e)) }

  phi_set : (p : Phi) (ns : List Name) → IsPhi names p → Sets (IsPhiPlaced all) ns (phi_order names p ns)
  phi_set p ns h =
      let n1 = (local_order names p.result ns).1 in
      let x = local_set p.result ns h.0 in
      record { grows = λ e. x.grows (each_grows (incoming_order names) incoming_grows p.incoming n1 e); holds = λ e. x.holds (each_grows (incoming_order names) incoming_grows p.incoming n1 e) }

  block_set : (b : Block) (ns : List Name) → IsBlock names b → Sets (IsBlockPlaced all) ns (block_order names b ns)
  block_set b ns h =
      let n1 = (local_order names b.label ns).1 in
      let n2 = (each_order (phi_order names) b.phis n1).1 in
      let n3 = (each_order (instr_order names) b.instrs n2).1 in
      let x = each_set (phi_order names) (IsPhi names) (IsPhiPlaced all) phi_set b.phis n1 h.1 in
      let y = each_set (instr_order names) (IsInstr names) (SetsPlaced all) instr_set b.instrs n2 h.2 in
      record {
        grows = λ e. local_grows b.label ns (x.grows (y.grows (term_grows b.term n3 e)));
        holds = λ e. (x.holds (y.grows (term_grows b.term n3 e)), y.holds (term_grows b.term n3 e));
      }

  param_set : (p : Param) (ns : List Name) → IsParam names p → Sets (IsParamPlaced all) ns (param_order names p ns)
  param_set p ns h = let x = local_set p.name ns h.1 in record { grows = x.grows; holds = x.holds }

pub ordered_placed : (f : Function) → IsFunction f → HoldsResults (function_order f)
ordered_placed f h =
    let with_params : List Name = (each_order (param_order f.names) f.params []).1 in
    let all : List Name = (function_order f).names in
    let params = each_set f.names all (param_order f.names) (IsParam f.names) (IsParamPlaced all) (param_set f.names all) f.params [] h.1 in
    let blocks = each_set f.names all (block_order f.names) (IsBlock f.names) (IsBlockPlaced all) (block_set f.names all) f.blocks with_params (each_of (IsBlock f.names) f.blocks h.2) in
    let end : Extends all all = record { more = []; is = sym (append-nil all) } in
    record { params = params.holds (blocks.grows end); blocks = blocks.holds end }
