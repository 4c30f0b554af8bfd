-- Instructions that are done, or stuck: they call no function and no coro intrinsic, make no slot and free no block.
use Rattle.std.proofs.Common.{◌≡◌, ℕ, Bool, true, false, List, Option, Some, None, Result, Ok, Err, if◌then◌else◌}
use Rattle.pass_proofs.specs.ir_base.declared.cause.Cause.{Cause}
use Rattle.pass_proofs.specs.ir_base.declared.ops.Pred.{Pred}
use Rattle.pass_proofs.specs.ir_base.declared.outcome.Word.{Word}
use Rattle.pass_proofs.specs.ir_model.Ty.{Ty, array, int, named, ptr, structure, token}
use Rattle.pass_proofs.specs.ir_model.declared.instr.Instr.{Instr}
use Rattle.pass_proofs.specs.run_memory.Memory.{compare}
use Rattle.pass_proofs.specs.run_memory.declared.pointer.Value.{Value}
use Rattle.pass_proofs.specs.run_step.Step.{Action, Context, Done, Stuck, Work, compared, copied_bytes, done, if_alignment, instr_action, is_alignment, named_call, observed, set_memory, with_length, words_of}
use Rattle.pass_proofs.specs.run_step.Values.{address, nth}

abbrev pub IsQuietAction : Action → Type 0
IsQuietAction (Done w) = Unit {0}
IsQuietAction (Stuck cause) = Unit {0}
IsQuietAction _ = ⊥

done_quiet : {A : Type 0} (f : A → Work) (r : Result A Cause) → IsQuietAction (done f r)
done_quiet f (Err cause) = tt
done_quiet f (Ok a) = tt

aligned_quiet : (align : ℕ) (a : Action) → IsQuietAction a → IsQuietAction (if_alignment align a)
aligned_quiet align a h = on (is_alignment align)
  where
    on : (t : Bool) → IsQuietAction (if t then a else Stuck Cause.Align)
    on true = h
    on false = tt

length_quiet : (v : Value) (f : ℕ → Action) → ((n : ℕ) → IsQuietAction (f n)) → IsQuietAction (with_length v f)
length_quiet (Value.Int n) f h = h n.bits
length_quiet Value.Poison f h = tt
length_quiet (Value.Ptr p) f h = tt

-- no calls, and no allocas
abbrev pub is_simple : Instr → Bool
is_simple (Instr.Alloca name ty align) = false
is_simple (Instr.Call result must_tail ty callee args) = false
is_simple i = true

module _ (c : Context) (w : Work) where
  compared_quiet : (name : ℕ) (pred : Pred) (ty : Ty) (a b : Value) → IsQuietAction (compared c w name pred ty a b)
  compared_quiet name pred (int n) a b = tt
  compared_quiet name pred ptr a b = done_quiet _ (compare c.rights w.world.memory (address a) (address b))
  compared_quiet name pred token a b = done_quiet _ (compare c.rights w.world.memory (address a) (address b))
  compared_quiet name pred (array n t) a b = done_quiet _ (compare c.rights w.world.memory (address a) (address b))
  compared_quiet name pred (structure ts) a b = done_quiet _ (compare c.rights w.world.memory (address a) (address b))
  compared_quiet name pred (named n) a b = done_quiet _ (compare c.rights w.world.memory (address a) (address b))

  observed_quiet : (d : ℕ) (ty : Option Ty) (result : Option ℕ) (args : Option (List Word))
      → IsQuietAction (observed c w d ty result args)
  observed_quiet d ty result None = tt
  observed_quiet d None result (Some args) = tt
  observed_quiet d (Some ty) result (Some args) = tt

  -- a call of what is declared alone
  pub declared_quiet : (d : Option ℕ) (ty : Option Ty) (result : Option ℕ) (must_tail : Bool) (vs : List Value)
      → IsQuietAction (named_call c w None d ty result must_tail vs)
  declared_quiet (Some d) ty result must_tail vs = observed_quiet d ty result (words_of vs)
  declared_quiet None ty result must_tail vs = tt

  pub copied_quiet : (vs : List Value) → IsQuietAction (copied_bytes c w vs)
  copied_quiet vs = length_quiet (nth vs 2) _ (λ n. done_quiet (set_memory w) _)

  pub simple_quiet : (i : Instr) → is_simple i ≡ true → IsQuietAction (instr_action c w i)
  simple_quiet (Instr.Binary name op flags ty a b) e = done_quiet _ _
  simple_quiet (Instr.Icmp name pred ty a b) e = compared_quiet name pred ty _ _
  simple_quiet (Instr.Select name x a b) e = tt
  simple_quiet (Instr.Cast name op nneg arg to) e = tt
  simple_quiet (Instr.Alloca name ty align) e = absurd (cc)
  simple_quiet (Instr.Load name ty p align) e = aligned_quiet align _ (done_quiet _ _)
  simple_quiet (Instr.Store arg p align) e = aligned_quiet align _ (done_quiet _ _)
  simple_quiet (Instr.Gep name inbounds ty base indices) e = tt
  simple_quiet (Instr.Call result must_tail ty callee args) e = absurd (cc)
