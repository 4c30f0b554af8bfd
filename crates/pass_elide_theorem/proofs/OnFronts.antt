-- While a function's new allocas are made, frames live as they did.
use Rattle.std.proofs.Common.{◌≡◌, ◌≤◌, ◌+◌, ◌∙◌, ◌++◌, ◌∷◌, ◌&&◌, ◌==◌, [], ap, arith, Bool, false, List, Option, Some, None, refl, subst, suc, sym, true, zero, ℕ, length, length-append}
use Rattle.std.specs.Option.{option_map_or}
use Rattle.std.specs.Prelude.{codes, slice_get}
use Rattle.pass_elide.specs.Elided.{elided_function, frame_allocas, function_frames}
use Rattle.pass_elide.specs.declared.given.GivenFrame.{GivenFrame}
use Rattle.pass_elide_apart.proofs.pass_elide_proof.Facts.{not_both}
use Rattle.pass_elide_apart.proofs.pass_elide_proof.GivingMarkers.{markers_same}
use Rattle.pass_elide_apart.proofs.pass_elide_proof.Making.{HasMade, all_made, made_at}
use Rattle.pass_elide_apart.proofs.pass_elide_proof.Modules.{finds_alike}
use Rattle.pass_elide_apart.proofs.pass_elide_proof.Standing.{has_code}
use Rattle.pass_elide_apart.specs.pass_elide_proof.Calling.{IsAligned, IsAtFront}
use Rattle.pass_elide_apart.specs.pass_elide_proof.Elision.{Elision, elided, function_in, function_in_elided, rooms}
use Rattle.pass_elide_apart.specs.pass_elide_proof.Invariant.{begins_heap, lives_in}
use Rattle.pass_elide_apart.specs.pass_elide_proof.Match.{AreElided}
use Rattle.pass_elide_apart.specs.pass_elide_proof.Places.{allocas_ahead}
use Rattle.pass_elide_theorem.specs.Carried.{DoFramesLive}
use Rattle.pass_elide_apart.proofs.pass_proofs.ir_laws.facts.Lists.{get_before}
use Rattle.pass_elide_apart.specs.pass_proofs.ir_base.declared.outcome.Outcome.{Outcome}
use Rattle.pass_elide_apart.specs.pass_proofs.ir_model.Names.{numbered}
use Rattle.pass_elide_apart.specs.pass_proofs.ir_model.declared.module.Function.{Function}
use Rattle.pass_elide_apart.specs.pass_proofs.pass_fetch.Blocks.{numbered_names}
use Rattle.pass_elide_apart.specs.pass_proofs.run_agreement.Machines.{iterate}
use Rattle.pass_elide_apart.specs.pass_proofs.run_framed.Framed.{FramedGiven, framed_step}
use Rattle.pass_elide_apart.specs.pass_proofs.run_laws.access.Lines.{StandAt}
use Rattle.pass_elide_apart.specs.pass_proofs.run_laws.changed.Changed.{Each}
use Rattle.pass_elide_apart.specs.pass_proofs.run_memory.Memory.{same_kind}
use Rattle.pass_elide_apart.specs.pass_proofs.run_memory.declared.block.Kind.{Kind}
use Rattle.pass_elide_apart.specs.pass_proofs.run_memory.declared.block.MemoryBlock.{MemoryBlock}
use Rattle.pass_elide_apart.specs.pass_proofs.run_source.State.{function_of, is_finished}
use Rattle.pass_elide_apart.specs.pass_proofs.run_source.declared.state.Instance.{Instance}
use Rattle.pass_elide_apart.specs.pass_proofs.run_source.declared.state.Mode.{Mode}
use Rattle.pass_elide_apart.specs.pass_proofs.run_source.declared.state.State.{State}
use Rattle.pass_elide_apart.specs.pass_proofs.run_step.Step.{has_markers}
use Rattle.pass_elide_apart.specs.pass_proofs.run_step.Values.{Env}
use Rattle.pass_elide_apart.specs.pass_proofs.run_step.declared.world.Slot.{Slot}

-- ---- more blocks

abbrev AreLive : List Instance → List MemoryBlock → Type 0
AreLive instances m =
    (i : ℕ) (x : Instance) → slice_get instances i ≡ Some x → begins_heap m x ≡ false → is_finished x.status ≡ false
    → lives_in (slice_get m x.block) ≡ true

abbrev on_heap : Instance → Option MemoryBlock → Bool
on_heap x o = option_map_or (λ (y : MemoryBlock). same_kind y.kind Kind.Allocator) o false && (x.start == 0)

live_on : (m more : List MemoryBlock) (x : Instance)
    → (begins_heap m x ≡ false → lives_in (slice_get m x.block) ≡ true) → begins_heap (m ++ more) x ≡ false
    → lives_in (slice_get (m ++ more) x.block) ≡ true
live_on m more x lives none = by (slice_get m x.block) refl
  where
    by : (o : Option MemoryBlock) → slice_get m x.block ≡ o → lives_in (slice_get (m ++ more) x.block) ≡ true
    by None is =
        absurd (not_both (lives_in (slice_get m x.block)) (lives (ap (on_heap x) is)) (ap lives_in is))
    by (Some z) is =
        let same : slice_get (m ++ more) x.block ≡ slice_get m x.block =
        get_before m more x.block z is ∙ sym is in
        ap lives_in same ∙ lives (sym (ap (on_heap x) same) ∙ none)

-- ---- on the way

module _ (g : FramedGiven) (t : State) (runs : t.outcome ≡ Outcome.Running) (mode : t.top.mode ≡ Mode.Plain)
    (plain : (function_of g.given t).coroutine ≡ false) where
  on_front : (n : ℕ) (rs : List GivenFrame) (memory : List MemoryBlock) (values : Env) (slots : List Slot) (at : ℕ)
      → StandAt (function_of g.given t) t.top.block at (frame_allocas n rs) → Each IsAligned (frame_allocas n rs)
      → ((v : ℕ) → n ≤ v → has_markers (function_of g.given t) v ≡ false) → n + length rs ≤ length values
      → AreLive t.instances memory → (i : ℕ) → i ≤ length (frame_allocas n rs)
      → DoFramesLive (iterate (framed_step g) i (made_at g t runs mode plain memory values slots at))
  on_front n rs memory values slots at stand aligned unmarked room live zero le = live
  on_front n [] memory values slots at stand aligned unmarked room live (suc i) le = absurd (omega (arith, le))
  on_front n (GivenFrame.Field base distance ∷ rs) memory values slots at stand aligned unmarked room live (suc i) le =
      on_front (n + 1) rs memory values slots at stand aligned (λ v low. unmarked v (omega (arith, low)))
      (omega (arith, room)) live (suc i) le
  on_front n (GivenFrame.Alloca size align ∷ rs) memory values slots at stand aligned unmarked room live (suc i) le =
      let one : HasMade g t runs mode plain memory values slots at n
      (frame_allocas n (GivenFrame.Alloca size align ∷ [])) =
      all_made g t runs mode plain n (GivenFrame.Alloca size align ∷ []) memory values slots at (stand.0, tt)
      (aligned.0, tt) unmarked (omega (arith, room)) in
      let wide = one.wide in
      subst (λ (x : State). DoFramesLive (iterate (framed_step g) i x)) (sym one.comes)
      (on_front (n + 1) rs (memory ++ one.more) one.values' one.slots' (at + 1) stand.1 aligned.1
      (λ v low. unmarked v (omega (arith, low))) (omega (arith, room, wide))
      (λ j x there none going. live_on memory one.more x (λ heap. live j x there heap going) none) i
      (omega (arith, le)))

-- ---- at a function's first place

names_many : (word : List ℕ) (k : ℕ) → length (numbered_names word k) ≡ k
names_many word zero = refl
names_many word (suc k) =
    let rest = names_many word k in
    let long = length-append (numbered_names word k) (numbered word k ∷ []) in
    omega (arith, rest, long)

module _ (e : Elision) (s t : State) (r : AreElided e s t) (at : IsAtFront e s t) (live : DoFramesLive t) where
  abbrev own : Function
  own = function_in e s.top.func

  same_function : function_of (elided e).given t ≡ elided_function (rooms e s.top.func) (function_in e s.top.func)
  same_function = ap (function_in_elided e) r.top.func ∙ (finds_alike e).functions s.top.func

  stand : StandAt (function_of (elided e).given t) t.top.block t.top.at
      (allocas_ahead (rooms e s.top.func) (function_in e s.top.func))
  stand =
      subst (λ (p : Function × (ℕ × ℕ)). StandAt p.0 p.1.0 p.1.1
      (allocas_ahead (rooms e s.top.func) (function_in e s.top.func)))
      (λ j. (sym same_function j, (sym at.other_block j, sym at.other_at j)))
      ((has_code (rooms e s.top.func) own).allocas at.entry at.has_entry)

  room : length own.names + length (function_frames (rooms e s.top.func) own) ≤ length t.top.values
  room =
      let names : length (function_in_elided e s.top.func).names
      ≡ length (elided_function (rooms e s.top.func) own).names
      = ap (λ (h : Function). length h.names) ((finds_alike e).functions s.top.func) in
      let more = length-append own.names
      (numbered_names (codes "$c.callee.") (length (function_frames (rooms e s.top.func) own))) in
      let many = names_many (codes "$c.callee.") (length (function_frames (rooms e s.top.func) own)) in
      let others = at.others in
      omega (arith, names, more, many, others)

  pub fronts_live : (i : ℕ) → i ≤ length (allocas_ahead (rooms e s.top.func) (function_in e s.top.func))
      → DoFramesLive (iterate (framed_step (elided e)) i t)
  fronts_live i le =
      on_front (elided e) t (r.outcome ∙ at.runs) at.mode
      (ap (λ (h : Function). h.coroutine) same_function ∙ at.plain) (length own.names)
      (function_frames (rooms e s.top.func) own) t.world.memory t.top.values t.top.slots t.top.at stand at.aligned
      (λ v low. ap (λ (h : Function). has_markers h v) same_function
      ∙ (markers_same v (rooms e s.top.func) own ∙ at.marks v low)) room live i le
