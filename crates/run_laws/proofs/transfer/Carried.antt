-- The law of one instruction with all names standing, as an instance of that of two instructions of one shape.
use Rattle.std.proofs.Common.{◌≡◌, ℕ, Bool, true, false, List, [], ◌∷◌, Option, Some, None, refl, sym, ap, ◌∙◌, subst, ⊎_elim, arith, ◌⊎◌}
use Rattle.std.proofs.lemmas.Bool.{cases_eq, false≢true}
use Rattle.std.specs.Prelude.{map, option_map}
use Rattle.run_memory.specs.declared.block.MemoryBlock.{MemoryBlock}
use Rattle.run_memory.specs.declared.pointer.Value.{Value}
use Rattle.ir_base.specs.declared.name.Name.{Name}
use Rattle.ir_model.specs.Names.{function_named}
use Rattle.ir_model.specs.declared.instr.Case.{Case}
use Rattle.ir_model.specs.declared.instr.Instr.{Instr}
use Rattle.ir_model.specs.declared.instr.Terminator.{Terminator}
use Rattle.ir_model.specs.declared.operand.Callee.{Callee}
use Rattle.ir_model.specs.declared.operand.Operand.{Operand}
use Rattle.run_laws.proofs.memory.Written.{same_some}
use Rattle.run_laws.specs.memory.Pointers.{Home, IsValue}
use Rattle.run_laws.specs.memory.Standing.{AreByteRights}
use Rattle.run_step.specs.Step.{Action, AtInstr, AtTerm, Context, Coro, Deallocate, Done, Enter, Fetched, GoTo, NewSlot, Nowhere, Return, Stuck, Work, action_of}
use Rattle.run_step.specs.Values.{Env, value_in}
use Rattle.run_laws.specs.embedded.Related.{AreAlike, AreEnvs, AreWorks, AreWorlds, GoesAlike, HasDistance, IsCarried, IsDeclared, IsOperand}
use Rattle.run_laws.specs.changed.Changed.{Each, callee_at, operands_at}
use Rattle.run_laws.proofs.transfer.Alone.{here_itself, looked_at}
use Rattle.run_laws.proofs.transfer.Over.{step_over}
use Rattle.run_laws.specs.transfer.Muted.{muted}
use Rattle.run_laws.specs.transfer.Transfer.{AreJoined, AreSameDistances, AreSet, GoesOver, IsNamedAlike, IsPointedAlike, IsSameCase, IsTransferred, Maps, StandsFor, args_at, cases_at, given_at, looks_at}

-- no block is hidden
pub muted_none : (m : List MemoryBlock) → muted (λ b. false) m ≡ m
muted_none [] = refl
muted_none (x ∷ m) = ap (λ k. x ∷ k) (muted_none m)

names_stand : (homes : List Home) (given : Option ℕ) (env other env' other' : Env) → AreEnvs homes env other
    → AreSet homes given env other env' other' → AreEnvs homes env' other'
names_stand homes given env other env' other' envs set = record {
  each = λ name. on name given refl;
  room = let a = set.length_source in let b = set.length_target in let r = envs.room in omega arith;
}
  where
    unset : (name : ℕ) → (given ≡ Some name → ⊥) → IsValue homes (value_in env' name) (value_in other' name)
    unset name ne = subst (λ (p : Value × Value). IsValue homes p.0 p.1) (λ i. (
      sym (set.source name ne) i,
      sym
          (set.target name ne) i,
    )) (envs.each name)

    on : (name : ℕ) (o : Option ℕ) → given ≡ o → IsValue homes (value_in env' name) (value_in other' name)
    on name None e = unset name (λ h. absurd (cc))
    on name (Some at) e = ⊎_elim
        (λ is. set.stands name (e ∙ ap Some is))
        (λ ne. unset name (λ h. ne (same_some at name (sym e ∙ h))))
        (cases_eq at name)

module _ (homes : List Home) (moves : ℕ
    → ℕ) (c d : Context) (w x : Work) (here : Fetched) (law : AreByteRights c.rights) (law' : AreByteRights d.rights)
    (alike : AreAlike c d) (works : AreWorks c.rights d.rights homes moves w x)
    (k : IsCarried homes moves c d w.values x.values here) where
  abbrev maps : Maps
  maps = record { declaration = moves; function = λ n. n; label = λ n. n }

  abbrev S : Operand → Operand → Type 0
  S = StandsFor (looks_at here) (IsValue homes) c d w.values x.values

  operand_itself : (a : Operand) → IsOperand homes c d w.values x.values a → S a a
  operand_itself a h = on (looks_at here)
    where
      on : (t : Bool) → StandsFor t (IsValue homes) c d w.values x.values a a
      on true = h.here
      on false = tt

  operands_itself : (xs : List Operand) → Each (IsOperand homes c d w.values x.values) xs → Each (λ a. S a a) xs
  operands_itself [] h = tt
  operands_itself (a ∷ xs) h = (operand_itself a h.0, operands_itself xs h.1)

  looked : (z : Fetched) → Each (IsOperand homes c d w.values x.values) (operands_at z)
      → Each (λ a. S a a) (looked_at z)
  looked (AtTerm (Terminator.Switch arg default cases)) h = (operand_itself arg.value h.0, tt)
  looked (AtTerm (Terminator.Jump label)) h = tt
  looked (AtTerm (Terminator.Branch y a b)) h = (operand_itself y h.0, tt)
  looked (AtTerm (Terminator.Ret None)) h = tt
  looked (AtTerm (Terminator.Ret (Some arg))) h = (operand_itself arg.value h.0, tt)
  looked (AtTerm Terminator.Unreachable) h = tt
  looked Nowhere h = tt
  looked (AtInstr i) h = operands_itself (operands_at (AtInstr i)) h

  unmoved : (o : Option ℕ) → o ≡ option_map (λ n. n) o
  unmoved None = refl
  unmoved (Some n) = refl

  named : (n : Option Name) → IsDeclared moves c d n → IsNamedAlike maps c d n
  named None h = tt
  named (Some n) h = (alike.functions n ∙ unmoved (function_named c.code n), h)

  pointed : (z : Fetched) → IsPointedAlike maps c d w.values z
  pointed (AtInstr (Instr.Call result must_tail ty (Callee.Local v) args)) = λ func e. (refl, alike.fits ty args func)
  pointed (AtInstr (Instr.Call result must_tail ty (Callee.Named n) args)) = tt
  pointed (AtInstr (Instr.Call result must_tail ty (Callee.Allocator a) args)) = tt
  pointed (AtInstr (Instr.Call result must_tail ty (Callee.Intrinsic i) args)) = tt
  pointed (AtInstr (Instr.Binary r op flags ty a b)) = tt
  pointed (AtInstr (Instr.Icmp r pred ty a b)) = tt
  pointed (AtInstr (Instr.Select r y a b)) = tt
  pointed (AtInstr (Instr.Cast r op nneg a to)) = tt
  pointed (AtInstr (Instr.Alloca r ty align)) = tt
  pointed (AtInstr (Instr.Load r ty p align)) = tt
  pointed (AtInstr (Instr.Store a p align)) = tt
  pointed (AtInstr (Instr.Gep r inbounds ty p indices)) = tt
  pointed (AtTerm t) = tt
  pointed Nowhere = tt

  distances : (z : Fetched) → HasDistance c d w.values x.values z → AreSameDistances c d w.values x.values z z
  distances (AtInstr (Instr.Gep r inbounds ty p indices)) h = h
  distances (AtInstr (Instr.Call r must_tail ty callee args)) h = tt
  distances (AtInstr (Instr.Binary r op flags ty a b)) h = tt
  distances (AtInstr (Instr.Icmp r pred ty a b)) h = tt
  distances (AtInstr (Instr.Select r y a b)) h = tt
  distances (AtInstr (Instr.Cast r op nneg a to)) h = tt
  distances (AtInstr (Instr.Alloca r ty align)) h = tt
  distances (AtInstr (Instr.Load r ty p align)) h = tt
  distances (AtInstr (Instr.Store a p align)) h = tt
  distances (AtTerm t) h = tt
  distances Nowhere h = tt

  cases_same : (cases : List Case)
      → Each (IsOperand homes c d w.values x.values) (map (λ (j : Case). j.arg.value) cases)
      → Each (IsSameCase c d) cases
  cases_same [] h = tt
  cases_same (j ∷ cases) h = (h.0.nowhere j.arg.ty, cases_same cases h.1)

  cases_here : (z : Fetched) → Each (IsOperand homes c d w.values x.values) (operands_at z)
      → Each (IsSameCase c d) (cases_at z)
  cases_here (AtTerm (Terminator.Switch arg default cases)) h = cases_same cases h.1
  cases_here (AtTerm (Terminator.Jump label)) h = tt
  cases_here (AtTerm (Terminator.Branch y a b)) h = tt
  cases_here (AtTerm (Terminator.Ret v)) h = tt
  cases_here (AtTerm Terminator.Unreachable) h = tt
  cases_here Nowhere h = tt
  cases_here (AtInstr i) h = tt

  joined : AreJoined homes (λ b. false) maps c d w x
  joined = record {
    over = subst (λ m. AreWorlds c.rights d.rights homes moves (record w.world { memory = m }) x.world)
        (sym (muted_none w.world.memory)) works.world;
    hidden = λ b e. absurd (false≢true e);
    answers = alike.answers;
    room = works.values.room;
  }

  transferred : IsTransferred (IsValue homes) maps c d w.values x.values here here
  transferred = record {
    shape = here_itself S here (looked here k.operands);
    callee = named (callee_at here) k.callee;
    pointed = pointed here;
    distance = distances here k.distance;
    cases = cases_here here k.operands;
    no_slot = k.no_slot;
    bytes = k.bytes;
  }

  alike_of : (a b : Action)
      → GoesOver c.rights d.rights homes (λ b. false) maps (given_at here) (args_at here) (args_at here) w x a b
      → GoesAlike c.rights d.rights homes moves a b
  alike_of (Done v) b h = (
    h.0,
    h.1,
    record {
      world = subst (λ m. AreWorlds c.rights d.rights homes moves (record v.world { memory = m }) (h.0).world)
          (muted_none v.world.memory) h.2;
      values = names_stand homes (given_at here) w.values x.values v.values (h.0).values works.values h.3;
    },
  )
  alike_of (NewSlot v slot) b h = absurd h
  alike_of (Enter func args result must_tail) b h = h
  alike_of (Coro i args result) b h = h.1 ∙ ap (λ z. Coro i z result) (sym h.0)
  alike_of (Deallocate p) b h = h
  alike_of (GoTo label) b h = h
  alike_of (Return None) b h = h
  alike_of (Return (Some v)) b h = h
  alike_of (Stuck cause) b h = tt

  pub carried_again : GoesAlike c.rights d.rights homes moves (action_of c w here) (action_of d x here)
  carried_again = alike_of (action_of c w here) (action_of d x here)
      (step_over homes (λ b. false) maps c d w x here here law law' joined transferred)
