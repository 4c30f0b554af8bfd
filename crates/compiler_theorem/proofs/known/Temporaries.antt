-- Where a marker of a slot that is used before begin stands, the slot's temporary is there.
use Rattle.std.proofs.Common.{◌≡◌, ◌≢◌, ◌+◌, ◌<◌, ◌≤◌, ℕ, true, None, Some, length, refl, sym, ap, ◌∙◌, subst, arith}
use Rattle.std.specs.List.{Contains}
use Rattle.std.specs.Prelude.{slice_get}
use Rattle.compiler_theorem.proofs.kinds.Begins.{own_alloca}
use Rattle.compiler_theorem.proofs.kinds.Early.{early_typed}
use Rattle.compiler_theorem.proofs.kinds.Whole.{kinds_kept}
use Rattle.compiler_theorem.proofs.known.Lonely.{frames_apart, lonely}
use Rattle.compiler_theorem.proofs.known.Once.{own_once}
use Rattle.compiler_theorem.proofs.known.Runs.{run, sized}
use Rattle.compiler_theorem.proofs.theorem.Framing.{sources_given}
use Rattle.compiler_theorem.proofs.theorem.Stepping.{other_slots, slots}
use Rattle.compiler_theorem.specs.known.Temporaries.{AreLiveTemporaries, IsLiveTemporary}
use Rattle.compiler_theorem.specs.theorem.Anew.{Anew, IsAnewOf}
use Rattle.compiler_theorem.specs.theorem.Asked.{asking}
use Rattle.compiler_theorem.specs.theorem.Built.{building}
use Rattle.compiler_theorem.specs.theorem.Entries.{IsEntryCall, Run}
use Rattle.compiler_theorem.specs.theorem.Lowered.{HasFewBytes, IsLowered, Lowered, early}
use Rattle.compiler.specs.ir_model.declared.instr.Instr.{Instr}
use Rattle.compiler.specs.pass_copies.declared.slot.EarlySlot.{EarlySlot}
use Rattle.pass_frames_meaning.proofs.kinds.Allocas.{same_slots}
use Rattle.pass_frames_meaning.proofs.others.Names.{result_low}
use Rattle.pass_frames_meaning.proofs.slotted.Facts.{listed_slots, slots_apart}
use Rattle.pass_frames_meaning.specs.Kinds.{IsOwnAlloca}
use Rattle.pass_frames_meaning.proofs.pass_frames_proof.stepping.Names.{edged_named, named_written, slots_new}
use Rattle.pass_frames_meaning.specs.pass_frames_proof.Framings.{IsFraming}
use Rattle.pass_frames_meaning.specs.pass_frames_proof.Marking.{IsTemporaryThere}
use Rattle.pass_frames_meaning.specs.pass_frames_proof.Places.{Framing, copies, edged, named, written}
use Rattle.pass_frames_meaning.specs.pass_frames_proof.Related.{AreBuiltOf, is_coroutine}
use Rattle.compiler.specs.run_framed.Framed.{framed_state_at}
use Rattle.compiler.specs.run_memory.Memory.{same_kind}
use Rattle.compiler.specs.run_memory.declared.block.Kind.{Kind}
use Rattle.compiler.specs.run_memory.declared.block.MemoryBlock.{MemoryBlock}
use Rattle.compiler.specs.run_source.declared.state.State.{State}
use Rattle.compiler.specs.run_step.declared.world.Slot.{Slot}

no_larger : (size room : ℕ) → size ≡ room → 0 + size ≤ room
no_larger size room e = omega (arith, e)

older : (name first second third new : ℕ) → name < first → first ≤ second → second ≤ third → third ≤ new
    → name ≢ new
older name first second third new lt one two three same = omega (arith, lt, one, two, three, same)

module _ (l : Lowered) (low : IsLowered l) (few : HasFewBytes l) (a : Anew) (anew : IsAnewOf (early l) a) (r : Run)
    (entered : IsEntryCall l.source r) (n m : ℕ)
    (built : AreBuiltOf (asking l low a r).b (run l low few a anew r entered n)
    (framed_state_at (building l low.is_framed r.answers).given r.entry r.args m))
    (coroutine : is_coroutine (asking l low a r).b (run l low few a anew r entered n).top.func ≡ true)
    (none : (run l low few a anew r entered n).top.instance ≡ None) (slot : Slot)
    (mine : Contains (run l low few a anew r entered n).top.slots slot) (q : ℕ) (e : EarlySlot)
    (used : Contains
    (copies ((asking l low a r).b.framing (run l low few a anew r entered n).top.func)).slots e)
    (is_slot : e.slot ≡ slot.alloca)
    (own : Contains (framed_state_at (building l low.is_framed r.answers).given r.entry r.args m).top.slots
    (record { alloca = e.temporary; block = q }))
    (live : IsLiveTemporary e
    (framed_state_at (building l low.is_framed r.answers).given r.entry r.args m).world.memory q) where
  abbrev s : State
  s = run l low few a anew r entered n

  abbrev t : State
  t = framed_state_at (building l low.is_framed r.answers).given r.entry r.args m

  abbrev x : Framing
  x = (asking l low a r).b.framing (run l low few a anew r entered n).top.func

  is : IsFraming ((asking l low a r).b.framing (run l low few a anew r entered n).top.func)
  is = (sources_given l low a r).framings (run l low few a anew r entered n).top.func coroutine

  alloca_of : (other : Slot) → Contains (run l low few a anew r entered n).top.slots other
      → IsOwnAlloca (asking l low a r) (run l low few a anew r entered n) other
  alloca_of other among = own_alloca l low a r s (sized l low few a anew r entered n) coroutine other among

  -- a slot of the coroutine has an older name
  old_name : (other : Slot) → Contains (run l low few a anew r entered n).top.slots other → other.alloca ≢ e.temporary
  old_name other among =
      let o = alloca_of other among in
      older other.alloca (length (edged x).names) (length (named x).names) (length (written x).names) e.temporary
      (result_low x is 0 o.at other.alloca (Instr.Alloca other.alloca o.ty o.align) o.there refl) (edged_named x)
      (named_written x) (slots_new x e used).0

  one_slot : (other : Slot) → Contains (run l low few a anew r entered n).top.slots other → (f : EarlySlot)
      → Contains (copies ((asking l low a r).b.framing (run l low few a anew r entered n).top.func)).slots f
      → f.slot ≡ other.alloca → f.temporary ≡ e.temporary → other.block ≡ slot.block
  one_slot other among f listed named_so same =
      own_once l low few a anew r entered n none other slot among mine
      (sym named_so ∙ same_slots x f e listed used same ∙ is_slot)

  -- the temporary is as large and as aligned
  same_size : (y : MemoryBlock)
      → slice_get (run l low few a anew r entered n).world.memory slot.block ≡ Some y
      → (0 + y.size ≤ live.block.size) × (live.block.align ≡ y.align)
  same_size y there =
      let o = alloca_of slot mine in
      let both = o.sized y there in
      let size = (((kinds_kept l low a anew r).early_fields s.top.func coroutine).sized e used o.at slot.alloca o.align
      o.ty o.there (sym is_slot)).0 in
      let typed = early_typed x is o.at slot.alloca o.align o.ty o.there e used is_slot in
      let all : y.size ≡ live.block.size = both.0 ∙ size ∙ sym live.sized in
      (no_larger y.size live.block.size all, live.aligned ∙ typed.1 ∙ sym both.1)

  pub temporary_there : IsTemporaryThere (asking l low a r).b (run l low few a anew r entered n)
      (framed_state_at (building l low.is_framed r.answers).given r.entry r.args m) built slot.block q
  temporary_there = record {
    block = live.block;
    there = live.there;
    live = live.live;
    whole = live.whole;
    small = live.small;
    writable = ap (λ (k : Kind). same_kind k Kind.Constant) live.slot;
    sized = same_size;
    frames = frames_apart (asking l low a r).b s t built (listed_slots s (slots l low few a anew r entered n))
        (slots_apart t (other_slots l low few a anew r entered m)) e q slot.block own live.block live.there live.slot
        old_name one_slot;
    lonely = λ c z ne there lives home.
        lonely (asking l low a r).b s t built (listed_slots s (slots l low few a anew r entered n))
        (slots_apart t (other_slots l low few a anew r entered m)) e q slot.block own live.block live.there live.slot
        old_name one_slot c z ne there lives home;
  }

-- so it is where a marker of the slot's name stands
module _ (l : Lowered) (low : IsLowered l) (few : HasFewBytes l) (a : Anew) (anew : IsAnewOf (early l) a) (r : Run)
    (entered : IsEntryCall l.source r) (n m : ℕ)
    (built : AreBuiltOf (asking l low a r).b (run l low few a anew r entered n)
    (framed_state_at (building l low.is_framed r.answers).given r.entry r.args m))
    (coroutine : is_coroutine (asking l low a r).b (run l low few a anew r entered n).top.func ≡ true)
    (live : AreLiveTemporaries (asking l low a r).b
    (framed_state_at (building l low.is_framed r.answers).given r.entry r.args m)) where
  pub marked_temporaries : (name : ℕ) (slot : Slot) → (run l low few a anew r entered n).top.instance ≡ None
      → Contains (run l low few a anew r entered n).top.slots slot
      → slot.alloca ≡ name → (q : ℕ) (e : EarlySlot)
      → Contains (copies ((asking l low a r).b.framing (run l low few a anew r entered n).top.func)).slots e
      → e.slot ≡ name
      → Contains (framed_state_at (building l low.is_framed r.answers).given r.entry r.args m).top.slots
      (record { alloca = e.temporary; block = q })
      → IsTemporaryThere (asking l low a r).b (run l low few a anew r entered n)
      (framed_state_at (building l low.is_framed r.answers).given r.entry r.args m) built slot.block q
  marked_temporaries name slot none mine named_so q e used is_slot own =
      temporary_there l low few a anew r entered n m built coroutine none slot mine q e used
      (is_slot ∙ sym named_so) own
      (live.each e
      (subst (λ (func : ℕ). Contains (copies ((asking l low a r).b.framing func)).slots e) (sym built.top.func) used) q
      own)
