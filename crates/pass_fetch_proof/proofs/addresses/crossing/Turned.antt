-- Where markers and allocas go, or the promise becomes null, no value is used where it wasn't.
use Rattle.std.proofs.Common.{◌≡◌, ⊎_elim, inl, inr, ℕ, Bool, true, false, List, [], ◌∷◌, refl, sym, ap, ◌∙◌, subst}
use Rattle.std.proofs.lemmas.Option.{slice_get-map}
use Rattle.std.specs.Prelude.{Some, filter, if◌then◌else◌, map, option_map, option_to_list, slice_get}
use Rattle.pass_edges_proof.proofs.rule_laws.rules.crossing.Follows.{Uses}
use Rattle.pass_edges_proof.specs.rule_uses.Uses.{local_of, locals_in}
use Rattle.pass_edges_proof.proofs.ir_laws.paths.source_rules.Locals.{listed_either, listed_left, listed_right}
use Rattle.pass_edges_proof.specs.flow_solver.Paths.{IsListed}
use Rattle.pass_addresses.specs.Placing.{turned_block, without_promise_of}
use Rattle.pass_edges_proof.proofs.rule_laws.frames.needed.Follows.{Ended, Follows, Left, Same}
use Rattle.pass_edges_proof.specs.ir_parts.Contents.{arg_operands, result_of}
use Rattle.ir_model.specs.declared.instr.Instr.{Instr}
use Rattle.ir_model.specs.declared.module.Block.{Block}
use Rattle.ir_model.specs.declared.operand.Arg.{Arg}
use Rattle.ir_model.specs.declared.operand.Callee.{Callee}
use Rattle.ir_model.specs.declared.operand.Intrinsic.{Intrinsic}

module _ (v : ℕ) where
  pub filter_follows : (keep : Instr → Bool) (is : List Instr) → ((i : Instr) → IsListed i is → keep i ≡ false → result_of i ≡ Some v → ⊥) → Follows v is (filter keep is)
  filter_follows keep [] h = Ended
  filter_follows keep (i ∷ is) h = on (keep i) refl (filter_follows keep is (λ j l. h j (inr l)))
    where
      on : (b : Bool) → keep i ≡ b → Follows v is (filter keep is) → Follows v (i ∷ is) (if b then i ∷ filter keep is else filter keep is)
      on true e rest = Same i i is (filter keep is) (λ u. u) refl rest
      on false e rest = Left i is (filter keep is) (h i (inl refl) e) rest

  second_apart : (a p : Arg) (args : List Arg) → IsListed v (locals_in (arg_operands (a ∷ args))) → IsListed v (locals_in (arg_operands (a ∷ p ∷ args)))
  second_apart a p args l =
      ⊎_elim (λ x. listed_left v (option_to_list (local_of a.value)) (locals_in (p.value ∷ arg_operands args)) x)
      (λ x. listed_right v (option_to_list (local_of a.value)) (locals_in (p.value ∷ arg_operands args)) (listed_right v (option_to_list (local_of p.value)) (locals_in (arg_operands args)) x))
      (listed_either v (option_to_list (local_of a.value)) (locals_in (arg_operands args)) l)

  promise_uses : (i : Instr) → Uses v (without_promise_of i) → Uses v i
  promise_uses (Instr.Call r must_tail ty (Callee.Intrinsic Intrinsic.CoroId) []) l = l
  promise_uses (Instr.Call r must_tail ty (Callee.Intrinsic Intrinsic.CoroId) (a ∷ [])) l = l
  promise_uses (Instr.Call r must_tail ty (Callee.Intrinsic Intrinsic.CoroId) (a ∷ p ∷ args)) l = second_apart a p args l
  promise_uses _ l = l

  promise_makes : (i : Instr) → result_of (without_promise_of i) ≡ result_of i
  promise_makes (Instr.Call r must_tail ty (Callee.Intrinsic Intrinsic.CoroId) args) = refl
  promise_makes _ = refl

  pub promise_follows : (is : List Instr) → Follows v is (map without_promise_of is)
  promise_follows [] = Ended
  promise_follows (i ∷ is) = Same i (without_promise_of i) is (map without_promise_of is) (promise_uses i) (promise_makes i) (promise_follows is)

  -- ---- blocks

  pub turned_follows : (turn : List Instr → List Instr) (bs : List Block) (q : ℕ) (b c : Block) → slice_get bs q ≡ Some b → slice_get (map (turned_block turn) bs) q ≡ Some c → Follows v b.instrs (turn b.instrs) → Follows v b.instrs c.instrs
  turned_follows turn bs q b c e d h =
      let both : Some (turned_block turn b) ≡ Some c = sym (slice_get-map (turned_block turn) bs q ∙ ap (option_map (turned_block turn)) e) ∙ d in
      let one : turned_block turn b ≡ c = cc in
      subst (λ (y : Block). Follows v b.instrs y.instrs) one h
