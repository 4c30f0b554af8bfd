-- An instruction accesses no hidden block of the framed run, since what it reads stands in the elided one.
use Rattle.std.proofs.Common.{◌≡◌, ◌≢◌, ◌<◌, ℕ, zero, suc, Bool, true, false, List, [], ◌∷◌, ◌++◌, length, refl, sym, ap, ◌∙◌}
use Rattle.std.specs.Prelude.{IsTrue}
use Rattle.pass_elide_proof.proofs.Facts.{not_both}
use Rattle.pass_elide_proof.proofs.Distances.{Stand}
use Rattle.pass_elide_proof.proofs.Reading.{args_stand, first_context, nth_stands, operand_stands, or_right}
use Rattle.pass_elide_proof.specs.Elision.{Elision, elided_code}
use Rattle.pass_proofs.specs.ir_model.Names.{is_local}
use Rattle.pass_proofs.specs.ir_model.Ty.{ptr}
use Rattle.pass_proofs.specs.ir_model.declared.instr.Instr.{Instr}
use Rattle.pass_proofs.specs.ir_model.declared.module.Function.{Function}
use Rattle.pass_proofs.specs.ir_model.declared.operand.Allocator.{Allocator}
use Rattle.pass_proofs.specs.ir_model.declared.operand.Arg.{Arg}
use Rattle.pass_proofs.specs.ir_model.declared.operand.Callee.{Callee}
use Rattle.pass_proofs.specs.ir_model.declared.operand.Intrinsic.{Intrinsic}
use Rattle.pass_proofs.specs.run_laws.access.Accessed.{accessed, by_copy, led_into, of_length}
use Rattle.pass_proofs.specs.run_laws.access.Changed.{IsNoneOf}
use Rattle.pass_proofs.specs.run_laws.changed.Changed.{Each}
use Rattle.pass_proofs.specs.run_laws.embedded.Making.{whole_home}
use Rattle.pass_proofs.specs.run_laws.embedded.Related.{HasNoSlot}
use Rattle.pass_proofs.specs.run_laws.memory.Pointers.{Home, IsValue, home_of}
use Rattle.pass_proofs.specs.run_memory.Memory.{Rights}
use Rattle.pass_proofs.specs.run_memory.declared.pointer.Pointer.{Pointer}
use Rattle.pass_proofs.specs.run_memory.declared.pointer.Value.{Value}
use Rattle.pass_proofs.specs.run_step.Reads.{reads_at}
use Rattle.pass_proofs.specs.run_step.Step.{AtInstr, Context, Work}
use Rattle.pass_proofs.specs.run_step.Values.{Env, address, arg_values, nth, value_in}
use Rattle.pass_proofs.specs.run_step.declared.world.World.{World}

each_append : {A : Type 0} (P : A → Type 0) (xs ys : List A) → Each P xs → Each P ys → Each P (xs ++ ys)
each_append P [] ys h k = k
each_append P (x ∷ xs) ys h k = (h.0, each_append P xs ys h.1 k)

-- the block into which a pointer leads that stands in the other run
module _ (homes : List Home) (hides : ℕ → Bool)
    (hidden : (n : ℕ) → hides n ≡ true → (home_of homes n).is_seen ≡ false) where
  abbrev pub IsShownBlock : ℕ → Type 0
  IsShownBlock b = hides b ≡ false

  seen_shown : (b : ℕ) → (home_of homes b).is_seen ≡ true → IsShownBlock b
  seen_shown b seen = on (hides b) refl
    where
      on : (t : Bool) → hides b ≡ t → hides b ≡ false
      on true e = absurd (not_both (home_of homes b).is_seen seen (hidden b e))
      on false e = e

  pub led_shown : (v u : Value) → IsValue homes v u → Each IsShownBlock (led_into v)
  led_shown (Value.Ptr (Pointer.At b o)) u h = (seen_shown b h.0, tt)
  led_shown (Value.Ptr Pointer.Null) u h = tt
  led_shown (Value.Ptr (Pointer.Func g)) u h = tt
  led_shown Value.Poison u h = tt
  led_shown (Value.Int x) u h = tt

  address_shown : (v u : Value) → IsValue homes v u → Each IsShownBlock (led_into (address v))
  address_shown (Value.Ptr p) u h = led_shown (Value.Ptr p) u h
  address_shown Value.Poison u h = tt
  address_shown (Value.Int x) u h = tt

  copy_shown : (to from : Value) (k : ℕ) → Each IsShownBlock (led_into to) → Each IsShownBlock (led_into from)
      → Each IsShownBlock (by_copy to from k)
  copy_shown to from zero h g = tt
  copy_shown to from (suc k) h g = each_append IsShownBlock (led_into to) (led_into from) h g

  length_shown : (v : Value) (f : ℕ → List ℕ) → ((k : ℕ) → Each IsShownBlock (f k))
      → Each IsShownBlock (of_length v f)
  length_shown (Value.Int x) f h = h x.bits
  length_shown Value.Poison f h = tt
  length_shown (Value.Ptr p) f h = tt

  -- those are none of the blocks that are shown
  pub none_hidden : (b : ℕ) → hides b ≡ true → (bs : List ℕ) → Each IsShownBlock bs → IsNoneOf b bs
  none_hidden b is [] h = tt
  none_hidden b is (a ∷ bs) h = (other, none_hidden b is bs h.1)
    where
      other : b ≢ a
      other same = not_both (hides a) (ap hides (sym same) ∙ is) h.0

module _ (e : Elision) (R : Rights) (f : Function) (homes : List Home)
    (globals : (n : ℕ) → n < length e.code.globals → home_of homes n ≡ whole_home n) (env other : Env)
    (hides : ℕ → Bool) (hidden : (n : ℕ) → hides n ≡ true → (home_of homes n).is_seen ≡ false) (world : World) where
  abbrev c : Context
  c = first_context e R f

  abbrev w : Work
  w = record { world = world; values = env }

  abbrev Shown : List ℕ → Type 0
  Shown bs = Each (IsShownBlock homes hides hidden) bs

  abbrev Reads : Instr → Type 0
  Reads i = (v : ℕ) → IsTrue (reads_at v (AtInstr i)) → IsValue homes (value_in env v) (value_in other v)

  args_shown : (args : List Arg) → Each (Stand e homes env other) args → (k : ℕ)
      → Shown (led_into (address (nth (arg_values e.code env args) k)))
  args_shown args h k =
      address_shown homes hides hidden (nth (arg_values e.code env args) k)
      (nth (arg_values (elided_code e) other args) k) (nth_stands e homes globals env other args h k)

  copies_shown : (args : List Arg) → Each (Stand e homes env other) args
      → Shown (of_length (nth (arg_values e.code env args) 2) (by_copy (address (nth (arg_values e.code env args) 0))
      (address (nth (arg_values e.code env args) 1))))
  copies_shown args h =
      length_shown homes hides hidden (nth (arg_values e.code env args) 2)
      (by_copy (address (nth (arg_values e.code env args) 0)) (address (nth (arg_values e.code env args) 1)))
      (λ k. copy_shown homes hides hidden (address (nth (arg_values e.code env args) 0))
      (address (nth (arg_values e.code env args) 1)) k (args_shown args h 0) (args_shown args h 1))

  pub accessed_shown : (i : Instr) → Reads i → HasNoSlot (AtInstr i) → Shown (accessed c w (AtInstr i))
  accessed_shown (Instr.Load r ty p align) reads no_slot =
      address_shown homes hides hidden _ _ (operand_stands e homes globals env other p ptr (λ v is. reads v is))
  accessed_shown (Instr.Store a p align) reads no_slot =
      address_shown homes hides hidden _ _ (operand_stands e homes globals env other p ptr
      (λ v is. reads v (or_right (is_local v a.value) (is_local v p) is)))
  accessed_shown (Instr.Call result must_tail ty (Callee.Allocator Allocator.Malloc) args) reads no_slot =
      absurd no_slot
  accessed_shown (Instr.Call result must_tail ty (Callee.Allocator Allocator.Znwm) args) reads no_slot = absurd no_slot
  accessed_shown (Instr.Call result must_tail ty (Callee.Allocator Allocator.Free) args) reads no_slot =
      args_shown args (args_stand e homes globals env other args reads) 0
  accessed_shown (Instr.Call result must_tail ty (Callee.Allocator Allocator.ZdlPv) args) reads no_slot =
      args_shown args (args_stand e homes globals env other args reads) 0
  accessed_shown (Instr.Call result must_tail ty (Callee.Allocator Allocator.ZdlPvm) args) reads no_slot =
      args_shown args (args_stand e homes globals env other args reads) 0
  accessed_shown (Instr.Call result must_tail ty (Callee.Intrinsic Intrinsic.LifetimeStart) args) reads no_slot =
      absurd no_slot
  accessed_shown (Instr.Call result must_tail ty (Callee.Intrinsic Intrinsic.LifetimeEnd) args) reads no_slot =
      absurd no_slot
  accessed_shown (Instr.Call result must_tail ty (Callee.Intrinsic Intrinsic.MemcpyI64) args) reads no_slot =
      copies_shown args (args_stand e homes globals env other args reads)
  accessed_shown (Instr.Call result must_tail ty (Callee.Intrinsic Intrinsic.MemcpyI32) args) reads no_slot =
      copies_shown args (args_stand e homes globals env other args reads)
  accessed_shown (Instr.Call result must_tail ty (Callee.Intrinsic _) args) reads no_slot = tt
  accessed_shown (Instr.Call result must_tail ty (Callee.Named n) args) reads no_slot = tt
  accessed_shown (Instr.Call result must_tail ty (Callee.Local v) args) reads no_slot = tt
  accessed_shown (Instr.Alloca r ty align) reads no_slot = absurd no_slot
  accessed_shown _ reads no_slot = tt
