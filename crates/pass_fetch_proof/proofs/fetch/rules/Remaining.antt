-- The operands of a function whose operands are fetched: those that aren't fetched, the new names, and the addresses by which they are.
use Rattle.std.proofs.Common.{◌≡◌, ℕ, ◌≤◌, Bool, List, [], ◌∷◌, ◌++◌, refl, arith}
use Rattle.std.specs.Prelude.{None, Option, Some, map, pos}
use Rattle.pass_edges_proof.proofs.ir_laws.facts.Members.{each_behind}
use Rattle.pass_fetch_proof.proofs.fetch.rules.Ends.{phis_rise}
use Rattle.pass_fetch_proof.proofs.fetch.rules.Fetched.{block_rises, instrs_rise}
use Rattle.pass_fetch_proof.proofs.fetch.rules.Puts.{fetch_rises}
use Rattle.pass_fetch_proof.specs.fetch.rules.Fetches.{base_of}
use Rattle.pass_edges_proof.specs.ir_parts.Contents.{arg_operands, ending_operands, instr_operands}
use Rattle.ir_model.specs.Ty.{Ty}
use Rattle.ir_model.specs.declared.instr.Case.{Case}
use Rattle.ir_model.specs.declared.instr.Incoming.{Incoming}
use Rattle.ir_model.specs.declared.instr.Instr.{Instr}
use Rattle.ir_model.specs.declared.instr.Phi.{Phi}
use Rattle.ir_model.specs.declared.instr.Terminator.{Terminator}
use Rattle.ir_model.specs.declared.module.Block.{Block}
use Rattle.ir_model.specs.declared.operand.Arg.{Arg}
use Rattle.ir_model.specs.declared.operand.Callee.{Callee}
use Rattle.ir_model.specs.declared.operand.Operand.{Operand}
use Rattle.pass_edges_proof.specs.run_laws.changed.Changed.{Each}
use Rattle.pass_edges_proof.specs.pass_fetch.Blocks.{end_at, fetched_blocks, fetched_incoming, fetched_phis, next_after_block, next_after_phi, next_after_phis}
use Rattle.pass_edges_proof.specs.pass_fetch.Fetching.{callee_by, fetch_into, fetch_of, fetched_args, fetched_operand, fetches_by, fetches_of, fetches_of_all, next_after, operand_by}
use Rattle.pass_edges_proof.specs.pass_fetch.Instrs.{fetched_instr, fetched_instrs, fetched_term, next_after_instr, next_after_instrs, term_operands, with_fetched}
use Rattle.pass_edges_proof.specs.pass_fetch.declared.fetch.Fetch.{Fetch}

-- what holds of each operand of a block
pub record HoldsIn (P : Operand → Type 0) (b : Block) : Type 0 where
  pub of_phis : Each (λ (p : Phi). Each (λ (i : Incoming). P i.value) p.incoming) b.phis
  pub of_instrs : Each (λ (i : Instr). Each P (instr_operands i)) b.instrs
  pub of_term : Each P (ending_operands b.term)

module _ (P : Operand → Type 0) (t : List (Option Fetch)) (first : ℕ) (unfetched : (x : Operand) → fetch_of t x ≡ None → P x) (new : (n : ℕ) → first ≤ n → P (Operand.Local n)) (bases : (x : Operand) (fetch : Fetch) → fetch_of t x ≡ Some fetch → P (Operand.Local (base_of fetch))) where
  -- ---- operands

  one_holds : (n : ℕ) (x : Operand) (o : Option Fetch) → fetch_of t x ≡ o → first ≤ n → P (operand_by n o x)
  one_holds n x None e low = unfetched x e
  one_holds n x (Some fetch) e low = new n low

  operand_holds : (n : ℕ) (x : Operand) → first ≤ n → P (fetched_operand t n x)
  operand_holds n x low = one_holds n x (fetch_of t x) refl low

  rises : (n : ℕ) (x : Operand) → first ≤ n → first ≤ next_after t n x
  rises n x low = let up : n ≤ next_after t n x = fetch_rises t n (x ∷ []) in omega (arith, low, up)

  args_hold : (n : ℕ) (args : List Arg) → first ≤ n → Each P (arg_operands (fetched_args t n args))
  args_hold n [] low = tt
  args_hold n (a ∷ args) low = (operand_holds n a.value low, args_hold (next_after t n a.value) args (rises n a.value low))

  indirect_holds : (n v : ℕ) (o : Option Fetch) (rest : List Arg) → P (operand_by n o (Operand.Local v)) → Each P (arg_operands rest) → (r : Option ℕ) (must_tail : Bool) (ty : Option Ty) → Each P (instr_operands (Instr.Call r must_tail ty (callee_by n o (Callee.Local v)) rest))
  indirect_holds n v None rest h k r must_tail ty = (h, k)
  indirect_holds n v (Some fetch) rest h k r must_tail ty = (h, k)

  with_holds : (n : ℕ) (i : Instr) → first ≤ n → Each P (instr_operands (with_fetched t n i))
  with_holds n (Instr.Binary r op flags ty a b) low = (operand_holds n a low, (operand_holds (next_after t n a) b (rises n a low), tt))
  with_holds n (Instr.Icmp r pred ty a b) low = (operand_holds n a low, (operand_holds (next_after t n a) b (rises n a low), tt))
  with_holds n (Instr.Select r c a b) low =
      (operand_holds n c low, (operand_holds (next_after t n c) a.value (rises n c low), (operand_holds (next_after t (next_after t n c) a.value) b.value (rises (next_after t n c) a.value (rises n c low)), tt)))
  with_holds n (Instr.Cast r op nneg a to) low = (operand_holds n a.value low, tt)
  with_holds n (Instr.Alloca r ty align) low = tt
  with_holds n (Instr.Load r ty x align) low = (operand_holds n x low, tt)
  with_holds n (Instr.Store a x align) low = (operand_holds n a.value low, (operand_holds (next_after t n a.value) x (rises n a.value low), tt))
  with_holds n (Instr.Gep r inbounds ty x args) low = (operand_holds n x low, args_hold (next_after t n x) args (rises n x low))
  with_holds n (Instr.Call r must_tail ty (Callee.Named c) args) low = args_hold n args low
  with_holds n (Instr.Call r must_tail ty (Callee.Allocator c) args) low = args_hold n args low
  with_holds n (Instr.Call r must_tail ty (Callee.Intrinsic c) args) low = args_hold n args low
  with_holds n (Instr.Call r must_tail ty (Callee.Local v) args) low =
      indirect_holds n v (fetch_of t (Operand.Local v)) (fetched_args t (next_after t n (Operand.Local v)) args) (operand_holds n (Operand.Local v) low) (args_hold (next_after t n (Operand.Local v)) args (rises n (Operand.Local v) low)) r must_tail ty

  -- ---- fetches

  pub fetch_holds : (n : ℕ) (x : Operand) (fetch : Fetch) → fetch_of t x ≡ Some fetch → Each P (instr_operands (fetch_into n fetch))
  fetch_holds n x (Fetch.Load ty cell) e = (bases x (Fetch.Load ty cell) e, tt)
  fetch_holds n x (Fetch.Address base distance) e = (bases x (Fetch.Address base distance) e, (unfetched (Operand.Number (pos distance)) refl, tt))

  abbrev Hold : List Instr → Type 0
  Hold is = Each (λ (i : Instr). Each P (instr_operands i)) is

  fetches_hold_by : (n : ℕ) (x : Operand) (o : Option Fetch) → fetch_of t x ≡ o → Hold (fetches_by n o)
  fetches_hold_by n x None e = tt
  fetches_hold_by n x (Some fetch) e = (fetch_holds n x fetch e, tt)

  fetches_hold : (n : ℕ) (xs : List Operand) → Hold (fetches_of_all t n xs)
  fetches_hold n [] = tt
  fetches_hold n (x ∷ xs) = each_behind (λ (i : Instr). Each P (instr_operands i)) (fetches_of t n x) (fetches_of_all t (next_after t n x) xs) (fetches_hold_by n x (fetch_of t x) refl) (fetches_hold (next_after t n x) xs)

  instr_holds : (n : ℕ) (i : Instr) → first ≤ n → Hold (fetched_instr t n i)
  instr_holds n i low = each_behind (λ (i : Instr). Each P (instr_operands i)) (fetches_of_all t n (instr_operands i)) (with_fetched t n i ∷ []) (fetches_hold n (instr_operands i)) (with_holds n i low, tt)

  instrs_hold : (n : ℕ) (is : List Instr) → first ≤ n → Hold (fetched_instrs t n is)
  instrs_hold n [] low = tt
  instrs_hold n (i ∷ is) low =
      let up : n ≤ next_after_instr t n i = fetch_rises t n (instr_operands i) in
      each_behind (λ (i : Instr). Each P (instr_operands i)) (fetched_instr t n i) (fetched_instrs t (next_after_instr t n i) is) (instr_holds n i low) (instrs_hold (next_after_instr t n i) is (omega (arith, low, up)))

  -- ---- blocks

  incoming_hold : (n : ℕ) (is : List Incoming) → first ≤ n → Each (λ (i : Incoming). P i.value) (fetched_incoming t n is)
  incoming_hold n [] low = tt
  incoming_hold n (i ∷ is) low = (operand_holds n i.value low, incoming_hold (next_after t n i.value) is (rises n i.value low))

  phis_hold : (n : ℕ) (ps : List Phi) → first ≤ n → Each (λ (p : Phi). Each (λ (i : Incoming). P i.value) p.incoming) (fetched_phis t n ps)
  phis_hold n [] low = tt
  phis_hold n (p ∷ ps) low =
      let up : n ≤ next_after_phi t n p = fetch_rises t n (map (λ (i : Incoming). i.value) p.incoming) in
      (incoming_hold n p.incoming low, phis_hold (next_after_phi t n p) ps (omega (arith, low, up)))

  -- the values of a switch's cases are as they were
  abbrev pub CasesHold : Terminator → Type 0
  CasesHold (Terminator.Switch a default cases) = Each P (map (λ (c : Case). c.arg.value) cases)
  CasesHold _ = Unit {0}

  term_holds : (n : ℕ) (e : Terminator) → first ≤ n → CasesHold e → Each P (ending_operands (fetched_term t n e))
  term_holds n (Terminator.Jump label) low h = tt
  term_holds n (Terminator.Branch c a b) low h = (operand_holds n c low, tt)
  term_holds n (Terminator.Switch a default cases) low h = (operand_holds n a.value low, h)
  term_holds n (Terminator.Ret None) low h = tt
  term_holds n (Terminator.Ret (Some a)) low h = (operand_holds n a.value low, tt)
  term_holds n Terminator.Unreachable low h = tt

  pub blocks_hold : (ends : List (List Instr)) → ((l : ℕ) → Hold (end_at ends l)) → (p n : ℕ) (bs : List Block) → first ≤ p → first ≤ n → Each (λ (b : Block). CasesHold b.term) bs → Each (HoldsIn P) (fetched_blocks t ends p n bs)
  blocks_hold ends h p n [] phis_low low cases = tt
  blocks_hold ends h p n (b ∷ bs) phis_low low cases =
      let last : ℕ = next_after_instrs t n b.instrs in
      let front : List Instr = fetched_instrs t n b.instrs in
      let es : List Instr = end_at ends b.label in
      let back : List Instr = fetches_of_all t last (term_operands b.term) in
      let Q : Instr → Type 0 = λ (i : Instr). Each P (instr_operands i) in
      let up : n ≤ last = instrs_rise t n b.instrs in
      let more : n ≤ next_after_block t n b = block_rises t n b in
      let phis_up : p ≤ next_after_phis t p b.phis = phis_rise t p b.phis in (
        record {
          of_phis = phis_hold p b.phis phis_low;
          of_instrs = each_behind Q (front ++ es) back (each_behind Q front es (instrs_hold n b.instrs low) (h b.label)) (fetches_hold last (term_operands b.term));
          of_term = term_holds last b.term (omega (arith, low, up)) cases.0;
        },
        blocks_hold ends h (next_after_phis t p b.phis) (next_after_block t n b) bs (omega (arith, phis_low, phis_up)) (omega (arith, low, more)) cases.1,
      )
