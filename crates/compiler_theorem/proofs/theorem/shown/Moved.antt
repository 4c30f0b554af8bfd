-- Pointers to an instance's block and into its frame slots are moved into its frame.
use Rattle.std.proofs.Common.{◌≡◌, ℕ, ◌+◌, true, List, Some, sym, ap, ◌∙◌, subst, arith}
use Rattle.std.specs.List.{Contains}
use Rattle.std.specs.Prelude.{slice_get}
use Rattle.compiler_theorem.proofs.theorem.shown.Fields.{field_found, frame_unflagged}
use Rattle.compiler_theorem.proofs.theorem.shown.Homes.{home_joined}
use Rattle.compiler_theorem.proofs.theorem.shown.Kept.{HasLike, kept_instance}
use Rattle.compiler_theorem.proofs.theorem.shown.Step.{HasOwnHome, HasSlotHome, step_own_home, step_slot_home}
use Rattle.compiler_theorem.specs.theorem.Anew.{Anew, IsAnewOf}
use Rattle.compiler_theorem.specs.theorem.Built.{building}
use Rattle.compiler_theorem.specs.theorem.Entries.{Run}
use Rattle.compiler_theorem.specs.theorem.Lowered.{IsLowered, Lowered, early, edged, sizes_of}
use Rattle.compiler_theorem.specs.theorem.Rows.{joined, joined_home}
use Rattle.compiler_theorem.specs.theorem.SharedBytes.{Frame, HasField, IsMoved}
use Rattle.compiler_theorem.specs.theorem.ShownSlots.{step_homes}
use Rattle.compiler_theorem.specs.theorem.Theorem.{AreMadeAnew}
use Rattle.compiler.specs.frame_classes.Classes.{IsOf}
use Rattle.compiler.specs.frame_classes.declared.class.SlotClass.{SlotClass}
use Rattle.compiler.specs.frame_contents.Held.{position_of}
use Rattle.compiler.specs.ir_model.Names.{function_at}
use Rattle.compiler.specs.pass_frames.Tables.{offset_at}
use Rattle.pass_frames_meaning.specs.pass_frames_proof.Related.{AreBuiltOf, AreInstances, Building, IsPlacedSlot}
use Rattle.compiler.specs.pass_proofs.kept.sources.Beside.{IsKeptOf}
use Rattle.compiler.specs.run_framed.Framed.{layout_of}
use Rattle.compiler.specs.run_laws.embedded.Making.{whole_home}
use Rattle.compiler.proofs.run_laws.memory.Homes.{seen_within}
use Rattle.compiler.specs.run_laws.memory.Pointers.{Home, home_of}
use Rattle.pass_frames_meaning.proofs.run_slots.Times.{same_there}
use Rattle.compiler.specs.run_source.declared.state.Instance.{Instance}
use Rattle.compiler.specs.run_source.declared.state.State.{State}
use Rattle.compiler.specs.run_step.declared.world.Slot.{Slot}

-- what is at home in a block that is at home in another is at home in that
two_homes : (homes more : List Home) (b c d o : ℕ) → home_of homes b ≡ whole_home c
    → home_of more c ≡ record { block = d; offset = o; is_seen = true }
    → home_of (joined homes more) b ≡ record { block = d; offset = o; is_seen = true }
two_homes homes more b c d o first second =
    let lt = seen_within homes b (ap (λ (q : Home). q.is_seen) first) in
    let sum : 0 + o ≡ o = omega arith in
    home_joined homes more b lt ∙ ap (joined_home more) first
    ∙ ap (λ (q : Home). record { block = q.block; offset = 0 + q.offset; is_seen = true }) second
    ∙ ap (λ (n : ℕ). record { block = d; offset = n; is_seen = true }) sum

module _ (l : Lowered) (low : IsLowered l) (a : Anew) (anew : IsAnewOf (early l) a) (r : Run) (s v u t : State)
    (kept : IsKeptOf l.source (sizes_of l) r.answers s v) (made : AreMadeAnew l a v u)
    (built : AreBuiltOf (building l low.is_framed r.answers) u t) (i : ℕ) (x : Instance)
    (e : slice_get s.instances i ≡ Some x) (coroutine : (function_at (early l) x.coroutine).coroutine ≡ true)
    (y : Frame t i) where
  abbrev b : Building
  b = building l low.is_framed r.answers

  abbrev first : List Home
  first = step_homes (edged l) a.flags a.roots v u made

  like : HasLike v.instances i x
  like = kept_instance l.source (sizes_of l) r.answers s v kept i x e

  own : HasOwnHome (step_homes (edged l) a.flags a.roots v u made) u i like.instance
  own = step_own_home (edged l) a.flags a.roots v u made i like.instance like.there

  beside : AreInstances b built.homes t own.instance y.instance
  beside = built.instances i own.instance y.instance own.there y.there

  frame_home : home_of (joined first built.homes) x.block ≡ whole_home y.instance.block
  frame_home = two_homes first built.homes x.block own.instance.block y.instance.block 0
      (ap (home_of first) (sym like.like.block) ∙ own.home) beside.block

  module _ (slot : Slot) (offset size : ℕ) (among : Contains x.slots slot)
      (class : IsOf (function_at l.source x.coroutine) slot.alloca SlotClass.Frame)
      (field : HasField l.source (function_at l.source x.coroutine) (layout_of l.layouts.coroutines x.coroutine)
      slot.alloca offset size) where
    home : HasSlotHome (step_homes (edged l) a.flags a.roots v u made) u i like.instance slot
    home = step_slot_home (edged l) a.flags a.roots v u made i like.instance like.there slot
        (subst (λ (ss : List Slot). Contains ss slot) (sym like.like.slots) among)
        (ap (λ (k : ℕ). a.flags k slot.alloca) like.like.coroutine
        ∙ frame_unflagged l low r.answers x.coroutine coroutine a anew slot.alloca class)

    same : home.instance.coroutine ≡ x.coroutine
    same = home.coroutine ∙ like.like.coroutine

    placed : IsPlacedSlot (b.framing home.instance.coroutine) built.homes y.instance
        (record { alloca = slot.alloca; block = home.block })
    placed = (built.instances i home.instance y.instance home.there y.there).slots
        (record { alloca = slot.alloca; block = home.block }) home.own

    found : offset_at (b.framing home.instance.coroutine).layout placed.position ≡ offset
    found =
        let z = field_found l low r.answers x.coroutine coroutine slot.alloca offset size field in
        let position : placed.position ≡ z.position =
        same_there (position_of (b.framing x.coroutine).contents.held slot.alloca) placed.position z.position
        (ap (λ (k : ℕ). position_of (b.framing k).contents.held slot.alloca) (sym same) ∙ placed.position_is)
        z.position_is in
        (λ j. offset_at (b.framing (same j)).layout (position j)) ∙ z.offset_is

    slot_home : home_of (joined first built.homes) slot.block
        ≡ record { block = y.instance.block; offset = y.instance.start + offset; is_seen = true }
    slot_home = two_homes first built.homes slot.block home.block y.instance.block (y.instance.start + offset)
        home.home
        (placed.home ∙ ap (λ (n : ℕ). record {
          block = y.instance.block;
          offset = y.instance.start + n;
          is_seen = true;
        }) found)

  pub moved : IsMoved l.source (layout_of l.layouts.coroutines x.coroutine)
      (joined (step_homes (edged l) a.flags a.roots v u made) built.homes) x y.instance
  moved = record {
    start = beside.start ∙ own.start ∙ like.like.start;
    frame = frame_home;
    slots = slot_home;
  }
