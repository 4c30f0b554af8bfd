-- Both runs make the instance of their topmost activation Finished.
use Rattle.std.proofs.Common.{◌≡◌, ◌≢◌, ◌<◌, ℕ, zero, suc, Bool, true, false, List, [], length, not, refl, sym, ap, ◌∙◌, subst, ◌&&◌, ◌||◌, ◌==◌}
use Rattle.std.proofs.lemmas.List.{length-set}
use Rattle.std.specs.Prelude.{None, Option, Some, if◌then◌else◌, slice_get, slice_set}
use Rattle.pass_elide_proof.proofs.DisownedToo.{disowned_stays}
use Rattle.pass_elide_proof.proofs.FramesStay.{instances_change}
use Rattle.pass_elide_proof.proofs.FreedAlone.{all_same}
use Rattle.pass_elide_proof.proofs.LeftWindows.{own_again, set_instances}
use Rattle.pass_elide_proof.specs.Elision.{Elision}
use Rattle.pass_elide_proof.specs.Ends.{HaveOwn, LiesInAlloca}
use Rattle.pass_elide_proof.specs.Match.{AreElided, AreInstances, Ends, IsFreedAs, IsNoGivenFrame, sides}
use Rattle.pass_proofs.specs.run_framed.Framed.{disown_given, framed_finish, is_given, is_stack_block}
use Rattle.pass_proofs.specs.run_laws.memory.Pointers.{Home, home_of}
use Rattle.pass_proofs.specs.run_memory.Memory.{disown}
use Rattle.pass_proofs.specs.run_memory.declared.block.MemoryBlock.{MemoryBlock}
use Rattle.pass_proofs.specs.run_source.Source.{change_own, finish, slots_of}
use Rattle.pass_proofs.specs.run_source.State.{own_instance, with_instance, with_memory}
use Rattle.pass_proofs.specs.run_source.declared.state.Instance.{Instance}
use Rattle.pass_proofs.specs.run_source.declared.state.State.{State}
use Rattle.pass_proofs.specs.run_source.declared.state.Status.{Status}
use Rattle.pass_proofs.specs.run_step.Step.{without_slots}
use Rattle.pass_proofs.specs.run_step.declared.world.Slot.{Slot}
use Rattle.run_access_worked.proofs.Ended.{set_frames}
use Rattle.run_access_worked.specs.Frames.{AreSameFrames}

-- ---- the step

abbrev pub over : Instance → Instance
over x = record x { status = Status.Finished }

-- an instance without slots is Finished, and a stack block at whose start it began is owned no more
abbrev pub over_there : State → ℕ → Instance → Bool → State
over_there s j x false = with_instance s j (over x)
over_there s j x true = with_memory (with_instance s j (over x)) (disown s.world.memory x.block)

abbrev owns_stack : State → Instance → Bool
owns_stack s x = is_stack_block s.world.memory x.block && (x.start == 0)

finished_is : (s : State) (j : ℕ) (x : Instance) → s.top.instance ≡ Some j → slice_get s.instances j ≡ Some x
    → x.slots ≡ [] → (b : Bool) → owns_stack s x ≡ b → framed_finish s ≡ over_there s j x b
finished_is s j x own here none b is =
    let found = own_again s j x own here in
    let ends : finish s ≡ with_instance s j (over x)
    = (λ i. with_memory (change_own s over (found i)) (without_slots s.world.memory (slots_of (found i))))
    ∙ (λ i. with_memory (with_instance s j (over x)) (without_slots s.world.memory (none i))) in
    (λ i. disown_given (ends i) (found i)) ∙ on b is
  where
    on : (b : Bool) → owns_stack s x ≡ b
        → disown_given (with_instance s j (over x)) (Some (j, x)) ≡ over_there s j x b
    on true is =
        ap (λ (c : Bool). if c then with_memory (with_instance s j (over x)) (disown s.world.memory x.block)
        else with_instance s j (over x)) is
    on false is =
        ap (λ (c : Bool). if c then with_memory (with_instance s j (over x)) (disown s.world.memory x.block)
        else with_instance s j (over x)) is

-- ---- the instances

freed_over : (n : List MemoryBlock) (x y : Instance) (g : Bool) → IsFreedAs n x y g → IsFreedAs n (over x) (over y) g
freed_over n x y false h = h
freed_over n x y true h = (h.0, λ running. absurd (cc))

module _ (e : Elision) (s t : State) (r : AreElided e s t) (j : ℕ) (x y : Instance)
    (here : slice_get s.instances j ≡ Some x) (beside : slice_get t.instances j ≡ Some y) where
  abbrev xs : List Instance
  xs = slice_set s.instances j (over x)

  abbrev ys : List Instance
  ys = slice_set t.instances j (over y)

  over_both : AreInstances e r.homes t.world.memory (over x) (over y)
  over_both =
      let old = r.instances j x y here beside in
      record {
        coroutine = old.coroutine;
        whole = old.whole;
        home = old.home;
        status = Ends;
        last_save = old.last_save;
        released = old.released;
        freed = freed_over t.world.memory x y (is_given t.world.memory y) old.freed;
        slots = old.slots;
        no_slots = old.no_slots;
      }

  pub ended_both : AreElided e (record s { instances = xs }) (record t { instances = ys })
  ended_both =
      instances_change e s t r xs ys
      (set_frames s.instances j x (over x) here (record { coroutine = refl; block = refl; start = refl }))
      (set_frames t.instances j y (over y) beside (record { coroutine = refl; block = refl; start = refl }))
      (length-set t.instances j (over y) ∙ (r.count ∙ sym (length-set s.instances j (over x))))
      (set_instances e r.homes t.world.memory s.instances t.instances r.instances j (over x) (over y) x y here beside
      over_both)

-- ---- both runs

lit : (a : Bool) → a ≡ true → a ≡ false → ⊥
lit true y n = absurd (cc)
lit false y n = absurd (cc)

first_of : (a b : Bool) → (a && b) ≡ true → a ≡ true
first_of true b h = refl
first_of false b h = absurd (cc)

not_owned : (a b c : Bool) → (a || c) ≡ false → (a && b) ≡ false
not_owned true b c h = absurd (cc)
not_owned false b c h = refl

or_first : (a b : Bool) → a ≡ true → (a || b) ≡ true
or_first true b h = refl
or_first false b h = absurd (cc)

-- what becomes of the two states
pub record EndsBoth (e : Elision) (s t u w : State) : Type 0 where
  pub xs : List Instance
  pub ys : List Instance
  pub memory : List MemoryBlock
  pub first : u ≡ record s { instances = xs }
  pub second : w ≡ with_memory (record t { instances = ys }) memory
  pub firsts : AreSameFrames s.instances xs
  pub seconds : AreSameFrames t.instances ys
  pub beside : AreElided e (record s { instances = xs }) (with_memory (record t { instances = ys }) memory)

module _ (e : Elision) (s t : State) (r : AreElided e s t) (own : HaveOwn e s t r) where
  abbrev x : Instance
  x = own.first

  abbrev y : Instance
  y = own.second

  abbrev j : ℕ
  j = own.number

  first : framed_finish s ≡ record s { instances = slice_set s.instances j (over x) }
  first =
      finished_is s j x own.own own.there (r.instances j x y own.there own.beside).slots false
      (not_owned (is_stack_block s.world.memory x.block) (x.start == 0) (not (x.start == 0)) own.heap)

  second : (b : Bool) → owns_stack t y ≡ b → framed_finish t ≡ over_there t j y b
  second b is =
      finished_is t j y (r.top.instance ∙ own.own) own.beside (r.instances j x y own.there own.beside).no_slots b is

  away : LiesInAlloca r.homes r.hides (sides s t) y → (b : ℕ) → b < length s.world.memory → r.hides b ≡ false
      → IsNoGivenFrame (sides s t) b → (home_of r.homes b).block ≢ y.block
  away lies b lt calm free same = lies.alloca.free b lt calm free (same ∙ sym lies.block)

  over_first : AreSameFrames s.instances (slice_set s.instances j (over x))
  over_first =
      set_frames s.instances j x (over x) own.there (record { coroutine = refl; block = refl; start = refl })

  over_second : AreSameFrames t.instances (slice_set t.instances j (over y))
  over_second =
      set_frames t.instances j y (over y) own.beside (record { coroutine = refl; block = refl; start = refl })

  by_owner : (b : Bool) → owns_stack t y ≡ b → EndsBoth e s t (framed_finish s) (framed_finish t)
  by_owner false is = record {
    xs = slice_set s.instances j (over x);
    ys = slice_set t.instances j (over y);
    memory = t.world.memory;
    first = first;
    second = second false is;
    firsts = over_first;
    seconds = over_second;
    beside = ended_both e s t r j x y own.there own.beside;
  }
  by_owner true is =
      let given = or_first (is_stack_block t.world.memory y.block) (not (y.start == 0))
      (first_of (is_stack_block t.world.memory y.block) (y.start == 0) is) in
      record {
        xs = slice_set s.instances j (over x);
        ys = slice_set t.instances j (over y);
        memory = disown t.world.memory y.block;
        first = first;
        second = second true is;
        firsts = over_first;
        seconds = over_second;
        beside = ended_both e s (with_memory t (disown t.world.memory y.block))
            (disowned_stays e s t r y.block (away (own.lies given))) j x y own.there own.beside;
      }

  finished : EndsBoth e s t (framed_finish s) (framed_finish t)
  finished = by_owner (owns_stack t y) refl

  -- so it is at coro.end, where an activation that has left changes nothing
  pub ends_both : (left right : Bool) → right ≡ left
      → EndsBoth e s t (if left then s else framed_finish s) (if right then t else framed_finish t)
  ends_both true true same = record {
    xs = s.instances;
    ys = t.instances;
    memory = t.world.memory;
    first = refl;
    second = refl;
    firsts = all_same s.instances;
    seconds = all_same t.instances;
    beside = r;
  }
  ends_both false false same = finished
  ends_both true false same = absurd (cc)
  ends_both false true same = absurd (cc)
