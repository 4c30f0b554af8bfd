-- What a suspend makes isn't needed behind it, where its switch alone uses it (rule K3).
use Rattle.std.proofs.Common.{◌≡◌, ◌⊎◌, inl, inr, ⊎_elim, ℕ, ◌+◌, ◌≤◌, Bool, true, false, List, [], ◌∷◌, length, refl, sym, ap, ◌∙◌, subst, arith}
use Rattle.std.specs.Prelude.{None, Option, Some, map, option_to_list, slice_get, ◌==◌}
use Rattle.rule_laws.proofs.frames.crossing.NewUses.{edge_in}
use Rattle.rule_laws.specs.frames.crossing.Crossed.{IsApart}
use Rattle.ir_laws.specs.facts.crossing.Crossed.{is_switch}
use Rattle.rule_shape.specs.Switches.{end_label, wrong_switch}
use Rattle.rule_shape.specs.Uses.{phi_operands}
use Rattle.rule_uses.specs.Uses.{local_of, locals_in, made_by_phis}
use Rattle.ir_laws.proofs.facts.Truth.{equal_numbers, is_number}
use Rattle.ir_laws.proofs.paths.source_rules.Locals.{listed_either, listed_left, listed_right}
use Rattle.ir_laws.specs.flow_solver.Paths.{IsListed}
use Rattle.ir_parts.specs.Contents.{ending_operands, instr_operands, result_of}
use Rattle.ir_laws.specs.ir_model.Names.{position_of}
use Rattle.ir_laws.specs.ir_model.declared.instr.Incoming.{Incoming}
use Rattle.ir_laws.specs.ir_model.declared.instr.Instr.{Instr}
use Rattle.ir_laws.specs.ir_model.declared.instr.Phi.{Phi}
use Rattle.ir_laws.specs.ir_model.declared.module.Block.{Block}
use Rattle.ir_laws.specs.ir_model.declared.module.Function.{Function}
use Rattle.ir_laws.specs.ir_model.declared.operand.Intrinsic.{Intrinsic}
use Rattle.ir_laws.specs.ir_paths.Windows.{destroy_label, instr_at, instr_in, is_call_of, label_at, label_of_term, resume_label}
use Rattle.ir_laws.specs.run_step.Step.{AtInstr, fetch, fetch_in, fetch_or}
use Rattle.ir_laws.proofs.facts.Lists.{label_found}
use Rattle.ir_laws.proofs.paths.uses.Paths.{there_listed}
use Rattle.rule_laws.proofs.rules.uses.Switched.{IsSwitched, is_switch_then, not_in_instr, not_in_phi, not_switched_on, suspend_result}
use Rattle.frame_contents.specs.frame_crossing.EdgeUses.{IsUsedOn, edge_use, incoming_uses, phis_uses, uses_by}
use Rattle.frame_contents.specs.frame_crossing.Paths.{Across, IsNeeded, IsNeededBehind, IsNeededFrom, Next, OnEdge, Use, phis_at, phis_in, used_by}
use Rattle.frame_contents.specs.frame_crossing.declared.edge_use.EdgeUse.{EdgeUse}

-- ---- where a use stands

pub data StandsAt (f : Function) (v q at : ℕ) : Type 0 where
  InInstr : (b : Block) (i : Instr) → slice_get f.blocks q ≡ Some b → slice_get b.instrs at ≡ Some i → IsListed v (locals_in (instr_operands i)) → StandsAt f v q at
  InTerm : (b : Block) → slice_get f.blocks q ≡ Some b → at ≡ length b.instrs → IsListed v (locals_in (ending_operands b.term)) → StandsAt f v q at

stands_at : (f : Function) (v q at : ℕ) → IsListed v (used_by (fetch f q at)) → StandsAt f v q at
stands_at f v q at l = on (slice_get f.blocks q) refl l
  where
    inner : (b : Block) → slice_get f.blocks q ≡ Some b → (o : Option Instr) → slice_get b.instrs at ≡ o → (t : Bool) → (at == length b.instrs) ≡ t → IsListed v (used_by (fetch_or o t b.term)) → StandsAt f v q at
    inner b got (Some i) d t e h = InInstr b i got d h
    inner b got None d true e h = InTerm b got (equal_numbers at (length b.instrs) e) h
    inner b got None d false e h = absurd h

    on : (o : Option Block) → slice_get f.blocks q ≡ o → IsListed v (used_by (fetch_in o at)) → StandsAt f v q at
    on None e h = absurd h
    on (Some b) e h = inner b e (slice_get b.instrs at) refl (at == length b.instrs) refl h

fetched_instr : (f : Function) (q at : ℕ) (b : Block) (j i : Instr) → slice_get f.blocks q ≡ Some b → slice_get b.instrs at ≡ Some j → fetch f q at ≡ AtInstr i → j ≡ i
fetched_instr f q at b j i got there e =
    let both : AtInstr j ≡ AtInstr i = sym (ap (λ (o : Option Block). fetch_in o at) got ∙ ap (λ (o : Option Instr). fetch_or o (at == length b.instrs) b.term) there) ∙ e in
    cc

-- a use on an edge is a phi's
in_incoming : (f : Function) (from v to at : ℕ) (is : List Incoming) → IsListed (edge_use from to v) (incoming_uses f at is) → IsListed v (locals_in (map (λ (i : Incoming). i.value) is))
in_incoming f from v to at [] l = absurd l
in_incoming f from v to at (i ∷ is) l =
    ⊎_elim
    (λ a. listed_left v (option_to_list (local_of i.value)) (locals_in (map (λ (j : Incoming). j.value) is)) (on (local_of i.value) a))
    (λ b. listed_right v (option_to_list (local_of i.value)) (locals_in (map (λ (j : Incoming). j.value) is)) (in_incoming f from v to at is b))
    (listed_either (edge_use from to v) (uses_by (position_of f i.from) at (local_of i.value)) (incoming_uses f at is) l)
  where
    on : (o : Option ℕ) → IsListed (edge_use from to v) (uses_by (position_of f i.from) at o) → IsListed v (option_to_list o)
    on None h = absurd h
    on (Some n) (inl e) = inl (ap (λ (u : EdgeUse). u.value) e)
    on (Some n) (inr h) = absurd h

in_phis : (f : Function) (from v to at : ℕ) (ps : List Phi) → IsListed (edge_use from to v) (phis_uses f at ps) → (x : Phi) × (IsListed x ps × IsListed v (locals_in (phi_operands x)))
in_phis f from v to at [] l = absurd l
in_phis f from v to at (p ∷ ps) l =
    ⊎_elim (λ a. (p, (inl refl, in_incoming f from v to at p.incoming a))) (λ b. let x = in_phis f from v to at ps b in (x.0, (inr x.1.0, x.1.1)))
    (listed_either (edge_use from to v) (incoming_uses f at p.incoming) (phis_uses f at ps) l)

module _ (k : ℕ) (f : Function) (coroutine : f.coroutine ≡ true) (switches : wrong_switch k f ≡ None) (q0 at0 : ℕ) (b0 : Block) (i0 : Instr) (got0 : slice_get f.blocks q0 ≡ Some b0) (there0 : slice_get b0.instrs at0 ≡ Some i0) (is0 : is_call_of Intrinsic.CoroSuspend i0 ≡ true) (w : IsSwitched f b0 at0 i0) where
  result : result_of i0 ≡ Some w.value
  result = sym (suspend_result i0 is0) ∙ w.result

  on_edge : (from to : ℕ) → IsUsedOn f w.value from to → ⊥
  on_edge from to l =
      let y = edge_in f 0 f.blocks (edge_use from to w.value) l in
      let x = in_phis f from w.value to (0 + y.0) y.1.0.phis y.1.1.1.1 in
      not_in_phi k f coroutine switches q0 at0 b0 i0 got0 w y.0 y.1.0 x.0 y.1.1.0 x.1.0 (is_number y.0 q0) x.1.1

  used_there : (q at : ℕ) → (q ≡ q0 → at ≤ at0) → StandsAt f w.value q at → ⊥
  used_there q at before (InInstr b i got there l) = not_in_instr k f coroutine switches q0 at0 b0 i0 got0 w q b i got (there_listed b.instrs at i there) (is_number q q0) l
  used_there q at before (InTerm b got long l) = on (is_number q q0)
    where
      on : (q ≡ q0) ⊎ (q ≡ q0 → ⊥) → ⊥
      on (inl same) =
          let both : Some b ≡ Some b0 = sym got ∙ ap (slice_get f.blocks) same ∙ got0 in
          let one : b ≡ b0 = cc in
          let low : at ≤ at0 = before same in
          let is : length b.instrs ≡ length b0.instrs = ap (λ (x : Block). length x.instrs) one in
          let last : at0 + 1 ≡ length b0.instrs = w.last in
          absurd (omega (arith, low, is, last, long))
      on (inr other) = not_switched_on k f coroutine switches q0 at0 b0 i0 got0 w q b got other l

  -- an instruction that doesn't make the value stands before the suspend
  goes_on : (q at : ℕ) (i : Instr) → fetch f q at ≡ AtInstr i → (result_of i ≡ Some w.value → ⊥) → (q ≡ q0 → at ≤ at0) → q ≡ q0 → at + 1 ≤ at0
  goes_on q at i there other before same = on (is_number at at0)
    where
      on : (at ≡ at0) ⊎ (at ≡ at0 → ⊥) → at + 1 ≤ at0
      on (inl e) =
          let got : slice_get f.blocks q ≡ Some b0 = ap (slice_get f.blocks) same ∙ got0 in
          let stands : slice_get b0.instrs at ≡ Some i0 = ap (slice_get b0.instrs) e ∙ there0 in
          absurd (other (ap result_of (sym (fetched_instr f q at b0 i0 i got stands there)) ∙ result))
      on (inr ne) = let low : at ≤ at0 = before same in omega (arith, low, ne)

  never : (q at : ℕ) → IsNeeded f w.value q at → (q ≡ q0 → at ≤ at0) → ⊥
  never _ _ (Use q at out used) before = used_there q at before (stands_at f w.value q at used)
  never _ _ (Next q at i out there other more) before = never q (at + 1) more (goes_on q at i there other before)
  never _ _ (OnEdge q at label out leads used) before = on_edge q (position_of f label) used
  never _ _ (Across q at label out leads phis more) before = never (position_of f label) 0 more (λ e. omega arith)

  from_edge : (label : ℕ) → IsNeededFrom f w.value q0 label → ⊥
  from_edge label (inl used) = on_edge q0 (position_of f label) used
  from_edge label (inr h) = never (position_of f label) 0 h.1 (λ e. omega arith)

  behind : IsNeededBehind f w.value (record { block = q0; at = at0 }) → ⊥
  behind (inl h) = from_edge (resume_label f (record { block = q0; at = at0 })) h
  behind (inr h) = from_edge (destroy_label f (record { block = q0; at = at0 })) h

  no_phis : (label : ℕ) → ((at : ℕ) (b : Block) → slice_get f.blocks at ≡ Some b → b.label ≡ label → b.phis ≡ []) → phis_at f (position_of f label) ≡ []
  no_phis label bare = on (slice_get f.blocks (position_of f label)) refl
    where
      on : (o : Option Block) → slice_get f.blocks (position_of f label) ≡ o → phis_in o ≡ []
      on None e = refl
      on (Some b) e = ap (made_by_phis []) (bare (position_of f label) b e (label_found f label b e))

  same_value : (i : Instr) (v : ℕ) → instr_at f (record { block = q0; at = at0 }) ≡ Some i → result_of i ≡ Some v → w.value ≡ v
  same_value i v stands made =
      let both : Some i0 ≡ Some i = sym (ap (λ (o : Option Block). instr_in o at0) got0 ∙ there0) ∙ stands in
      let one : i0 ≡ i = cc in
      let values : Some w.value ≡ Some v = sym result ∙ ap result_of one ∙ made in
      cc

  -- a suspend whose edges lead to blocks without phis stands apart
  pub suspend_apart : ((at : ℕ) (b : Block) → slice_get f.blocks at ≡ Some b → b.label ≡ label_of_term 0 b0.term → b.phis ≡ []) → ((at : ℕ) (b : Block) → slice_get f.blocks at ≡ Some b → b.label ≡ label_of_term 1 b0.term → b.phis ≡ []) → IsApart f (record { block = q0; at = at0 })
  suspend_apart resume destroy =
      record {
        last = λ b got. let both : Some b0 ≡ Some b = sym got0 ∙ got in let one : b0 ≡ b = cc in ap (λ (x : Block). length x.instrs) (sym one) ∙ sym w.last;
        switch = λ b got. let both : Some b0 ≡ Some b = sym got0 ∙ got in let one : b0 ≡ b = cc in ap (λ (x : Block). is_switch x.term) (sym one) ∙ is_switch_then w.value (end_label f) b0.term w.switch;
        resume = subst (λ (n : ℕ). phis_at f (position_of f n) ≡ []) (sym (ap (label_at 0) got0)) (no_phis (label_of_term 0 b0.term) resume);
        destroy = subst (λ (n : ℕ). phis_at f (position_of f n) ≡ []) (sym (ap (label_at 1) got0)) (no_phis (label_of_term 1 b0.term) destroy);
        unused = λ i v stands made needed. behind (subst (λ (u : ℕ). IsNeededBehind f u (record { block = q0; at = at0 })) (sym (same_value i v stands made)) needed);
      }
