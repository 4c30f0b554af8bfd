-- A function with its names in the order of their first occurrence is the function with its locals at other positions.
use Rattle.std.proofs.Common.{◌≡◌, ℕ, List, [], ◌∷◌, append-nil, refl, sym, Option, Some, None}
use Rattle.std.specs.Prelude.{map, option_map, slice_get}
use Rattle.ir_base.specs.declared.name.Name.{Name}
use Rattle.ir_model.specs.declared.instr.Case.{Case}
use Rattle.ir_model.specs.declared.instr.Incoming.{Incoming}
use Rattle.ir_model.specs.declared.instr.Instr.{Instr}
use Rattle.ir_model.specs.declared.instr.Phi.{Phi}
use Rattle.ir_model.specs.declared.instr.Terminator.{Terminator}
use Rattle.ir_model.specs.declared.module.Block.{Block}
use Rattle.ir_model.specs.declared.module.Function.{Function}
use Rattle.ir_model.specs.declared.module.Param.{Param}
use Rattle.ir_model.specs.declared.operand.Arg.{Arg}
use Rattle.ir_model.specs.declared.operand.Callee.{Callee}
use Rattle.ir_model.specs.declared.operand.Operand.{Operand}
use Rattle.text_canonical.proofs.order.Holds.{placed_is}
use Rattle.text_canonical.specs.order.Order.{arg_order, block_order, callee_order, case_order, function_order, incoming_order, instr_order, operand_order, param_order, phi_order, result_order, term_order}
use Rattle.text_canonical.specs.order.Places.{each_order, local_order, placed, placed_if}
use Rattle.text_canonical.specs.order.Shape.{Each, IsArg, IsBlock, IsCallee, IsCase, IsFunction, IsIncoming, IsInstr, IsOperand, IsParam, IsPhi, IsPlaced, IsSet, IsTerminator}
use Rattle.compiler.proofs.order.rules.Positions.{order_is, position_in, positions_stay_apart}
use Rattle.pass_proofs.specs.ir_laws.facts.names_apart.Apart.{AreApart}
use Rattle.pass_proofs.specs.ir_laws.facts.order_rules.Renumbered.{IsRenumbered, renumbered_arg, renumbered_block, renumbered_callee, renumbered_case, renumbered_incoming, renumbered_instr, renumbered_operand, renumbered_param, renumbered_phi, renumbered_term}
use Rattle.text_canonical.proofs.grammar.Again.{Extends}
use Rattle.text_canonical.proofs.grammar.Names.{place_extends}
use Rattle.pass_proofs.proofs.rule_laws.texts.order_rules.Ordered.{each_of}

-- what comes of a part is this where all names begin with those behind it, and those before it are among them
record Follows {A : Type 0} (all ns : List Name) (r : A × List Name) (x : A) : Type 0 where
  grows : Extends all r.1 → Extends all ns
  is : Extends all r.1 → r.0 ≡ x

module _ (names all : List Name) where
  abbrev to : ℕ → ℕ
  to = position_in names all

  same : {A : Type 0} (x : A) (ns : List Name) → Follows all ns (x, ns) x
  same x ns = record { grows = λ e. e; is = λ e. refl }

  -- one behind another
  local_follows : (i : ℕ) (ns : List Name) → IsPlaced names i → Follows all ns (local_order names i ns) (to i)
  local_follows i ns h = record { grows = grown (slice_get names i) h; is = λ e. order_is names all i ns h e }
    where
      grown : (o : Option Name) → (n : Name) × (o ≡ Some n) → Extends all (placed_if o i ns).1 → Extends all ns
      grown None d e = absurd (cc (d.1))
      grown (Some n) d e = place_extends n (placed n ns).0 (placed_is n ns) e

  module _ {A : Type 0} (f : A → List Name → A × List Name) (g : A → A) (P : A → Type 0) (step : (x : A) (ns : List Name) → P x → Follows all ns (f x ns) (g x)) where
    each_follows : (xs : List A) (ns : List Name) → Each P xs → Follows all ns (each_order f xs ns) (map g xs)
    each_follows [] ns h = same [] ns
    each_follows (x ∷ xs) ns h =
        let a = step x ns h.0 in
        let b = each_follows xs (f x ns).1 h.1 in
        record { grows = λ e. a.grows (b.grows e); is = λ e i. a.is (b.grows e) i ∷ b.is e i }

  -- ---- operands

  operand_follows : (x : Operand) (ns : List Name) → IsOperand names x → Follows all ns (operand_order names x ns) (renumbered_operand to x)
  operand_follows (Operand.Local n) ns h = let a = local_follows n ns h in record { grows = a.grows; is = λ e i. Operand.Local (a.is e i) }
  operand_follows (Operand.Global n) ns h = same (Operand.Global n) ns
  operand_follows (Operand.Number z) ns h = same (Operand.Number z) ns
  operand_follows Operand.True ns h = same Operand.True ns
  operand_follows Operand.False ns h = same Operand.False ns
  operand_follows Operand.Null ns h = same Operand.Null ns
  operand_follows Operand.None ns h = same Operand.None ns
  operand_follows Operand.Poison ns h = same Operand.Poison ns

  arg_follows : (a : Arg) (ns : List Name) → IsArg names a → Follows all ns (arg_order names a ns) (renumbered_arg to a)
  arg_follows a ns h =
      let x = operand_follows a.value ns h.1 in
      record { grows = x.grows; is = λ e i. record { ty = a.ty; value = x.is e i } }

  args_follow : (args : List Arg) (ns : List Name) → Each (IsArg names) args → Follows all ns (each_order (arg_order names) args ns) (map (renumbered_arg to) args)
  args_follow args ns h = each_follows (arg_order names) (renumbered_arg to) (IsArg names) arg_follows args ns h

  callee_follows : (c : Callee) (ns : List Name) → IsCallee names c → Follows all ns (callee_order names c ns) (renumbered_callee to c)
  callee_follows (Callee.Named n) ns h = same (Callee.Named n) ns
  callee_follows (Callee.Allocator a) ns h = same (Callee.Allocator a) ns
  callee_follows (Callee.Intrinsic i) ns h = same (Callee.Intrinsic i) ns
  callee_follows (Callee.Local n) ns h = let a = local_follows n ns h in record { grows = a.grows; is = λ e i. Callee.Local (a.is e i) }

  result_follows : (r : Option ℕ) (ns : List Name) → IsSet names r → Follows all ns (result_order names r ns) (option_map to r)
  result_follows None ns h = same None ns
  result_follows (Some r) ns h = let a = local_follows r ns h in record { grows = a.grows; is = λ e i. Some (a.is e i) }

  -- ---- instructions

  instr_follows : (x : Instr) (ns : List Name) → IsInstr names x → Follows all ns (instr_order names x ns) (renumbered_instr to x)
  instr_follows (Instr.Binary r op f t a b) ns h =
      let x = local_follows r ns h.0 in
      let y = operand_follows a (local_order names r ns).1 h.3 in
      let z = operand_follows b (operand_order names a (local_order names r ns).1).1 h.4 in
      record {
        grows = λ e. x.grows (y.grows (z.grows e));
        is = λ e i. Instr.Binary (x.is (y.grows (z.grows e)) i) op f t (y.is (z.grows e) i) (z.is e i);
      }
  instr_follows (Instr.Icmp r p t a b) ns h =
      let x = local_follows r ns h.0 in
      let y = operand_follows a (local_order names r ns).1 h.2 in
      let z = operand_follows b (operand_order names a (local_order names r ns).1).1 h.3 in
      record {
        grows = λ e. x.grows (y.grows (z.grows e));
        is = λ e i. Instr.Icmp (x.is (y.grows (z.grows e)) i) p t (y.is (z.grows e) i) (z.is e i);
      }
  instr_follows (Instr.Select r c a b) ns h =
      let x = local_follows r ns h.0 in
      let w = operand_follows c (local_order names r ns).1 h.1 in
      let y = arg_follows a (operand_order names c (local_order names r ns).1).1 h.2 in
      let z = arg_follows b (arg_order names a (operand_order names c (local_order names r ns).1).1).1 h.3 in
      record {
        grows = λ e. x.grows (w.grows (y.grows (z.grows e)));
        is = λ e i. Instr.Select (x.is (w.grows (y.grows (z.grows e))) i) (w.is (y.grows (z.grows e)) i) (y.is (z.grows e) i) (z.is e i);
      }
  instr_follows (Instr.Cast r op nneg a t) ns h =
      let x = local_follows r ns h.0 in
      let y = arg_follows a (local_order names r ns).1 h.2 in
      record { grows = λ e. x.grows (y.grows e); is = λ e i. Instr.Cast (x.is (y.grows e) i) op nneg (y.is e i) t }
  instr_follows (Instr.Alloca r t n) ns h = let x = local_follows r ns h.0 in record { grows = x.grows; is = λ e i. Instr.Alloca (x.is e i) t n }
  instr_follows (Instr.Load r t p n) ns h =
      let x = local_follows r ns h.0 in
      let y = operand_follows p (local_order names r ns).1 h.2 in
      record { grows = λ e. x.grows (y.grows e); is = λ e i. Instr.Load (x.is (y.grows e) i) t (y.is e i) n }
  instr_follows (Instr.Store a p n) ns h =
      let x = arg_follows a ns h.0 in
      let y = operand_follows p (arg_order names a ns).1 h.1 in
      record { grows = λ e. x.grows (y.grows e); is = λ e i. Instr.Store (x.is (y.grows e) i) (y.is e i) n }
  instr_follows (Instr.Gep r inbounds t p is) ns h =
      let x = local_follows r ns h.0 in
      let y = operand_follows p (local_order names r ns).1 h.2 in
      let z = args_follow is (operand_order names p (local_order names r ns).1).1 (each_of (IsArg names) is h.3) in
      record {
        grows = λ e. x.grows (y.grows (z.grows e));
        is = λ e i. Instr.Gep (x.is (y.grows (z.grows e)) i) inbounds t (y.is (z.grows e) i) (z.is e i);
      }
  instr_follows (Instr.Call r must t c args) ns h =
      let x = result_follows r ns h.0 in
      let y = callee_follows c (result_order names r ns).1 h.2 in
      let z = args_follow args (callee_order names c (result_order names r ns).1).1 h.3 in
      record {
        grows = λ e. x.grows (y.grows (z.grows e));
        is = λ e i. Instr.Call (x.is (y.grows (z.grows e)) i) must t (y.is (z.grows e) i) (z.is e i);
      }

  -- ---- phis and terminators

  incoming_follows : (x : Incoming) (ns : List Name) → IsIncoming names x → Follows all ns (incoming_order names x ns) (renumbered_incoming to x)
  incoming_follows x ns h =
      let a = operand_follows x.value ns h.0 in
      let b = local_follows x.from (operand_order names x.value ns).1 h.1 in
      record { grows = λ e. a.grows (b.grows e); is = λ e i. record { value = a.is (b.grows e) i; from = b.is e i } }

  phi_follows : (p : Phi) (ns : List Name) → IsPhi names p → Follows all ns (phi_order names p ns) (renumbered_phi to p)
  phi_follows p ns h =
      let a = local_follows p.result ns h.0 in
      let b = each_follows (incoming_order names) (renumbered_incoming to) (IsIncoming names) incoming_follows p.incoming (local_order names p.result ns).1 (each_of (IsIncoming names) p.incoming h.2) in
      record { grows = λ e. a.grows (b.grows e); is = λ e i. record { result = a.is (b.grows e) i; ty = p.ty; incoming = b.is e i } }

  case_follows : (c : Case) (ns : List Name) → IsCase names c → Follows all ns (case_order names c ns) (renumbered_case to c)
  case_follows c ns h =
      let a = arg_follows c.arg ns h.0 in
      let b = local_follows c.target (arg_order names c.arg ns).1 h.1 in
      record { grows = λ e. a.grows (b.grows e); is = λ e i. record { arg = a.is (b.grows e) i; target = b.is e i } }

  term_follows : (t : Terminator) (ns : List Name) → IsTerminator names t → Follows all ns (term_order names t ns) (renumbered_term to t)
  term_follows (Terminator.Jump l) ns h = let a = local_follows l ns h in record { grows = a.grows; is = λ e i. Terminator.Jump (a.is e i) }
  term_follows (Terminator.Branch c l m) ns h =
      let x = operand_follows c ns h.0 in
      let y = local_follows l (operand_order names c ns).1 h.1 in
      let z = local_follows m (local_order names l (operand_order names c ns).1).1 h.2 in
      record {
        grows = λ e. x.grows (y.grows (z.grows e));
        is = λ e i. Terminator.Branch (x.is (y.grows (z.grows e)) i) (y.is (z.grows e) i) (z.is e i);
      }
  term_follows (Terminator.Switch a l cases) ns h =
      let x = arg_follows a ns h.0 in
      let y = local_follows l (arg_order names a ns).1 h.1 in
      let z = each_follows (case_order names) (renumbered_case to) (IsCase names) case_follows cases (local_order names l (arg_order names a ns).1).1 h.2 in
      record {
        grows = λ e. x.grows (y.grows (z.grows e));
        is = λ e i. Terminator.Switch (x.is (y.grows (z.grows e)) i) (y.is (z.grows e) i) (z.is e i);
      }
  term_follows (Terminator.Ret None) ns h = same (Terminator.Ret None) ns
  term_follows (Terminator.Ret (Some a)) ns h = let x = arg_follows a ns h in record { grows = x.grows; is = λ e i. Terminator.Ret (Some (x.is e i)) }
  term_follows Terminator.Unreachable ns h = same Terminator.Unreachable ns

  -- ---- blocks and functions

  block_follows : (b : Block) (ns : List Name) → IsBlock names b → Follows all ns (block_order names b ns) (renumbered_block to b)
  block_follows b ns h =
      let n1 : List Name = (local_order names b.label ns).1 in
      let n2 : List Name = (each_order (phi_order names) b.phis n1).1 in
      let n3 : List Name = (each_order (instr_order names) b.instrs n2).1 in
      let w = local_follows b.label ns h.0 in
      let x = each_follows (phi_order names) (renumbered_phi to) (IsPhi names) phi_follows b.phis n1 h.1 in
      let y = each_follows (instr_order names) (renumbered_instr to) (IsInstr names) instr_follows b.instrs n2 h.2 in
      let z = term_follows b.term n3 h.3 in
      record {
        grows = λ e. w.grows (x.grows (y.grows (z.grows e)));
        is = λ e i. record { label = w.is (x.grows (y.grows (z.grows e))) i; phis = x.is (y.grows (z.grows e)) i; instrs = y.is (z.grows e) i; term = z.is e i };
      }

  param_follows : (p : Param) (ns : List Name) → IsParam names p → Follows all ns (param_order names p ns) (renumbered_param to p)
  param_follows p ns h =
      let x = local_follows p.name ns h.1 in
      record { grows = x.grows; is = λ e i. record { ty = p.ty; name = x.is e i } }

  params_follow : (ps : List Param) (ns : List Name) → Each (IsParam names) ps → Follows all ns (each_order (param_order names) ps ns) (map (renumbered_param to) ps)
  params_follow ps ns h = each_follows (param_order names) (renumbered_param to) (IsParam names) param_follows ps ns h

  blocks_follow : (bs : List Block) (ns : List Name) → Each (IsBlock names) bs → Follows all ns (each_order (block_order names) bs ns) (map (renumbered_block to) bs)
  blocks_follow bs ns h = each_follows (block_order names) (renumbered_block to) (IsBlock names) block_follows bs ns h

pub ordered : (f : Function) → IsFunction f → AreApart f.names → IsRenumbered f (function_order f)
ordered f h apart =
    let with_params : List Name = (each_order (param_order f.names) f.params []).1 in
    let all : List Name = (function_order f).names in
    let params = params_follow f.names all f.params [] h.1 in
    let blocks = blocks_follow f.names all f.blocks with_params (each_of (IsBlock f.names) f.blocks h.2) in
    let end : Extends all all = record { more = []; is = sym (append-nil all) } in
    record {
      to = position_in f.names all;
      apart = positions_stay_apart f.names all apart;
      is = λ i. record { name = f.name; result = f.result; params = params.is (blocks.grows end) i; coroutine = f.coroutine; blocks = blocks.is end i; names = all };
    }
