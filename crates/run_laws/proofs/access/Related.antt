-- What an access of the source found, and the same access of the target: its home, and the bytes there.
use Rattle.std.proofs.Common.{◌≡◌, ℕ, ◌+◌, ◌-◌, ◌<◌, ◌≤◌, ◌⊎◌, inl, inr, Bool, true, false, List, length, map, Result, Ok, Err, refl, sym, ap, ◌∙◌, subst, ⊎_elim, arith, if◌then◌else◌, nat_le}
use Rattle.std.proofs.lemmas.Bool.{cases_lt}
use Rattle.run_memory.proofs.Found.{Found, found}
use Rattle.run_memory.specs.Memory.{Rights, both, on_ok, range, rank}
use Rattle.run_memory.specs.declared.block.MemoryBlock.{MemoryBlock}
use Rattle.run_memory.specs.declared.pointer.Spot.{Spot}
use Rattle.run_memory.specs.declared.pointer.Value.{Value}
use Rattle.ir_base.specs.declared.cause.Cause.{Cause}
use Rattle.run_laws.proofs.memory.Loads.{address_is, found_stands}
use Rattle.run_laws.proofs.memory.Written.{same_some}
use Rattle.run_laws.specs.memory.Pointers.{Home, IsValue, home_of}
use Rattle.run_laws.specs.memory.Standing.{AreByteRights, Embeds, IsOpen, Stands}
use Rattle.run_step.specs.Step.{Stuck, Work, done, if_alignment, is_alignment}
use Rattle.run_laws.specs.access.Accessed.{Span, led_into, span_at}
use Rattle.run_laws.specs.access.Changed.{IsDefined, IsFree, IsFull, IsOutside, home_block}
use Rattle.run_laws.specs.changed.Changed.{Each}

-- ---- what a step that isn't undefined found

pub defined_range : {A : Type 0} (align : ℕ) (f : A → Work) (g : Spot → Result A Cause) (r : Result Spot Cause) → IsDefined (if_alignment align (done f (on_ok g r))) → (s : Spot) × (r ≡ Ok s)
defined_range align f g (Ok s) h = (s, refl)
defined_range align f g (Err c) h = absurd (on (is_alignment align) h)
  where
    on : (t : Bool) → IsDefined (if t then Stuck c else Stuck Cause.Align) → ⊥
    on true h = h
    on false h = h

undone : {A : Type 0} (f : A → Work) (t : Bool) (c d : Cause) (g : Spot × Spot → Result A Cause) → IsDefined (done f (on_ok g (if t then Err c else Err d))) → ⊥
undone f true c d g h = h
undone f false c d g h = h

pub defined_both : {A : Type 0} (f : A → Work) (g : Spot × Spot → Result A Cause) (r s : Result Spot Cause) → IsDefined (done f (on_ok g (both r s))) → (a : Spot) × (b : Spot) × ((r ≡ Ok a) × (s ≡ Ok b))
defined_both f g (Err c) (Err d) h = absurd (undone f (nat_le (rank c) (rank d)) c d g h)
defined_both f g (Err c) (Ok b) h = absurd h
defined_both f g (Ok a) (Err d) h = absurd h
defined_both f g (Ok a) (Ok b) h = (a, b, (refl, refl))

module _ (rights target : Rights) (homes : List Home) (m n : List MemoryBlock) (law : AreByteRights rights) (em : Embeds rights target homes m n) where
  abbrev home : ℕ → ℕ
  home b = home_block homes b

  -- ---- the homes of what is accessed

  pub led_found : (v u : Value) (len align : ℕ) (s : Spot) → IsValue homes v u → range rights m v len align ≡ Ok s → led_into u ≡ map home (led_into v)
  led_found v u len align s h e =
      let f = found rights m v len align s e in
      ap led_into (address_is rights target homes m n em v u len align s f h) ∙ sym (ap (λ (z : Value). map home (led_into z)) f.leads)

  -- ---- the bytes that are written

  -- a span of the target whose bytes the source may touch: nothing free lies there, and its block has all its bytes
  pub record IsTouched (t : Span) : Type 0 where
    pub outside : (block at : ℕ) → IsFree rights homes m block at → IsOutside block at t
    pub full : IsFull n t.block

  abbrev AreTouched : List Span → Type 0
  AreTouched ts = Each IsTouched ts

  pub span_touched : (v u : Value) (len align : ℕ) (s : Spot) → IsValue homes v u → range rights m v len align ≡ Ok s → AreTouched (span_at u len)
  span_touched v u len align s h e = subst AreTouched (sym (ap (λ (z : Value). span_at z len) (address_is rights target homes m n em v u len align s f h))) (record { outside = outside; full = full }, tt)
    where
      f : Found rights m v len align s
      f = found rights m v len align s e

      st : Stands rights target homes n s.block f.block
      st = found_stands rights target homes m n em v len align s f

      hit : (at : ℕ) → IsFree rights homes m (home s.block) at → (home_of homes s.block).offset + s.offset ≤ at → at < (home_of homes s.block).offset + s.offset + len → ⊥
      hit at free lo hi =
          let within = f.within in
          let is : (home_of homes s.block).offset + (at - (home_of homes s.block).offset) ≡ at = omega arith in
          let touched : IsOpen rights s.block f.block (at - (home_of homes s.block).offset) = law.bytes s.block f.block s.offset len (at - (home_of homes s.block).offset) f.unclosed (omega arith) (omega arith) in
          free.each s.block (at - (home_of homes s.block).offset) f.block f.stands f.live (omega arith) touched refl is

      outside : (block at : ℕ) → IsFree rights homes m block at → block ≡ home s.block → (at < (home_of homes s.block).offset + s.offset) ⊎ ((home_of homes s.block).offset + s.offset + len ≤ at)
      outside block at free same = ⊎_elim
          (λ lt. inl lt)
          (λ ge. ⊎_elim
          (λ lt. absurd (hit at (subst (λ (k : ℕ). IsFree rights homes m k at) same free) ge lt))
          (λ far. inr far)
          (cases_lt at ((home_of homes s.block).offset + s.offset + len)))
          (cases_lt at ((home_of homes s.block).offset + s.offset))

      full : IsFull n (home s.block)
      full = λ y there live. let is : st.block ≡ y = same_some st.block y (sym st.there ∙ there) in subst (λ (z : MemoryBlock). length z.bytes ≡ z.size) is st.whole
