-- Shapes over one relation of operands, and over a weaker one.
use Rattle.std.proofs.Common.{ℕ, List}
use Rattle.ir_model.specs.declared.instr.Instr.{Instr}
use Rattle.ir_model.specs.declared.instr.Terminator.{Terminator}
use Rattle.ir_model.specs.declared.operand.Arg.{Arg}
use Rattle.ir_model.specs.declared.operand.Callee.{Callee}
use Rattle.ir_model.specs.declared.operand.Operand.{Operand}
use Rattle.run_step.specs.Step.{AtInstr, AtTerm, Fetched, Nowhere}
use Rattle.run_laws.specs.transfer.Shapes.{Alloca, ArgStays, Binary, Branch, Call, CalleeStays, Cast, Direct, Empty, Gep, Icmp, Indirect, InstrStays, Jump, Load, Pair, Pairwise, Return, ReturnVoid, Select, StaysAt, Store, Switch, TermStays, Unreachable}

module _ (R S : Operand → Operand → Type 0) (f : (a b : Operand) → R a b → S a b) where
  arg_on : (a b : Arg) → ArgStays R a b → ArgStays S a b
  arg_on a b h = record { ty = h.ty; value = f a.value b.value h.value }

  args_on : (args now : List Arg) → Pairwise (ArgStays R) args now → Pairwise (ArgStays S) args now
  args_on _ _ Empty = Empty
  args_on _ _ (Pair a b args now h k) = Pair a b args now (arg_on a b h) (args_on args now k)

  callee_on : (c d : Callee) → CalleeStays R c d → CalleeStays S c d
  callee_on _ _ (Direct c e) = Direct c e
  callee_on _ _ (Indirect v n h) = Indirect v n (f _ _ h)

  instr_on : (i j : Instr) → InstrStays R i j → InstrStays S i j
  instr_on _ _ (Binary r op flags ty a b c d h k) = Binary r op flags ty a b c d (f _ _ h) (f _ _ k)
  instr_on _ _ (Icmp r pred ty a b c d h k) = Icmp r pred ty a b c d (f _ _ h) (f _ _ k)
  instr_on _ _ (Select r x y a b c d h k l) = Select r x y a b c d (f _ _ h) (arg_on a c k) (arg_on b d l)
  instr_on _ _ (Cast r op nneg a c to h) = Cast r op nneg a c to (arg_on a c h)
  instr_on _ _ (Alloca r ty align) = Alloca r ty align
  instr_on _ _ (Load r ty x y align h) = Load r ty x y align (f _ _ h)
  instr_on _ _ (Store a c x y align h k) = Store a c x y align (arg_on a c h) (f _ _ k)
  instr_on _ _ (Gep r inbounds ty x y args now h k) = Gep r inbounds ty x y args now (f _ _ h) (args_on args now k)
  instr_on _ _ (Call r must_tail ty c d args now h k) = Call r must_tail ty c d args now (callee_on c d h)
      (args_on args now k)

  term_on : (labels : ℕ → ℕ) (t u : Terminator) → TermStays R labels t u → TermStays S labels t u
  term_on labels _ _ (Jump label) = Jump label
  term_on labels _ _ (Branch x y a b h) = Branch x y a b (f _ _ h)
  term_on labels _ _ (Switch a c default cases now h k) = Switch a c default cases now (arg_on a c h) k
  term_on labels _ _ (Return a c h) = Return a c (arg_on a c h)
  term_on labels _ _ ReturnVoid = ReturnVoid
  term_on labels _ _ Unreachable = Unreachable

  pub stays_on : (labels : ℕ → ℕ) (here there : Fetched) → StaysAt R labels here there → StaysAt S labels here there
  stays_on labels Nowhere there h = tt
  stays_on labels (AtInstr i) Nowhere h = absurd h
  stays_on labels (AtInstr i) (AtInstr j) h = instr_on i j h
  stays_on labels (AtInstr i) (AtTerm t) h = absurd h
  stays_on labels (AtTerm t) Nowhere h = absurd h
  stays_on labels (AtTerm t) (AtInstr j) h = absurd h
  stays_on labels (AtTerm t) (AtTerm u) h = term_on labels t u h
