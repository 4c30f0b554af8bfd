-- Where an activation returns the one below it keeps its handle, unless the instance was freed.
use Rattle.std.proofs.Common.{◌≡◌, ◌<◌, ◌⊎◌, ◌∙◌, ◌∷◌, ap, arith, inl, inr, ⊎_elim, List, length, Option, refl, subst, sym, true, ℕ}
use Rattle.std.specs.Prelude.{None, Some, slice_get, unwrap_or}
use Rattle.elide_sites.specs.Sites.{destroys_of}
use Rattle.pass_elide_kept.specs.Kept.{Calling, Destroying, HasKeeper, Held, Keeps}
use Rattle.pass_elide_proof.proofs.CallersOnward.{instr_found}
use Rattle.pass_elide_proof.proofs.CallersValues.{result_elsewhere}
use Rattle.pass_elide_proof.proofs.Facts.{some_none}
use Rattle.pass_elide_proof.proofs.GivenBack.{is_set}
use Rattle.pass_elide_proof.proofs.Holding.{called}
use Rattle.pass_elide_proof.proofs.PhiValues.{value_here}
use Rattle.pass_elide_proof.proofs.Stacks.{next_point}
use Rattle.pass_elide_proof.specs.Callers.{KeepsHandles}
use Rattle.pass_elide_proof.specs.CallersStack.{AreCalled, AreCalledBy, HasBegunIn, IsCalledBy, KeepAllHandles}
use Rattle.pass_elide_proof.specs.Elision.{Elision, function_in}
use Rattle.pass_elide_proof.specs.Invariant.{IsDestroying, IsSiteOf, StandsAt, behind}
use Rattle.pass_elide_proof.specs.Places.{instrs_of}
use Rattle.pass_elide_proof.proofs.pass_proofs.ir_laws.facts.Truth.{is_number}
use Rattle.pass_elide_proof.specs.pass_proofs.ir_model.declared.instr.Instr.{Instr}
use Rattle.pass_elide_proof.specs.pass_proofs.ir_model.declared.module.Function.{Function}
use Rattle.pass_elide_proof.specs.pass_proofs.ir_model.declared.operand.Intrinsic.{Intrinsic}
use Rattle.pass_elide_proof.specs.pass_proofs.ir_parts.Contents.{result_of}
use Rattle.pass_elide_proof.specs.pass_proofs.ir_paths.Windows.{instr_at, is_call_of}
use Rattle.pass_elide_proof.specs.pass_proofs.ir_paths.declared.point.Point.{Point}
use Rattle.pass_elide_proof.specs.pass_proofs.run_memory.declared.pointer.Pointer.{Pointer}
use Rattle.pass_elide_proof.specs.pass_proofs.run_memory.declared.pointer.Value.{Value}
use Rattle.pass_elide_proof.specs.pass_proofs.run_source.Source.{given_back}
use Rattle.pass_elide_proof.specs.pass_proofs.run_source.State.{address_in, frame_address_of}
use Rattle.pass_elide_proof.specs.pass_proofs.run_source.declared.state.Activation.{Activation}
use Rattle.pass_elide_proof.specs.pass_proofs.run_source.declared.state.Instance.{Instance}
use Rattle.pass_elide_proof.specs.pass_proofs.run_source.declared.state.Mode.{Mode}
use Rattle.pass_elide_proof.specs.pass_proofs.run_source.declared.state.State.{State}
use Rattle.pass_elide_proof.specs.pass_proofs.run_step.Values.{pointer_to, value_in, with_result}

-- ---- whether a ramp was given the address of a block

abbrev block_in : Mode → ℕ
block_in (Mode.GivenRamp (Value.Ptr (Pointer.At b o))) = b
block_in _ = 0

abbrev offset_in : Mode → ℕ
offset_in (Mode.GivenRamp (Value.Ptr (Pointer.At b o))) = o.bits
offset_in _ = 0

pub is_frame : (m : Mode) (b : ℕ) → (m ≡ Mode.GivenRamp (pointer_to b)) ⊎ (m ≡ Mode.GivenRamp (pointer_to b) → ⊥)
is_frame (Mode.GivenRamp (Value.Ptr (Pointer.At c o))) b = by (is_number c b) (is_number o.bits 0)
  where
    by : (c ≡ b) ⊎ (c ≡ b → ⊥) → (o.bits ≡ 0) ⊎ (o.bits ≡ 0 → ⊥)
        → (Mode.GivenRamp (Value.Ptr (Pointer.At c o)) ≡ Mode.GivenRamp (pointer_to b))
        ⊎ (Mode.GivenRamp (Value.Ptr (Pointer.At c o)) ≡ Mode.GivenRamp (pointer_to b) → ⊥)
    by (inl block) (inl first) =
        inl (λ j. Mode.GivenRamp (Value.Ptr (Pointer.At (block j) (record { bits = first j }))))
    by (inr ne) first = inr (λ is. ne (ap block_in is))
    by (inl block) (inr ne) = inr (λ is. ne (ap offset_in is))
is_frame (Mode.GivenRamp (Value.Ptr Pointer.Null)) b = inr (λ is. absurd (cc))
is_frame (Mode.GivenRamp (Value.Ptr (Pointer.Func f))) b = inr (λ is. absurd (cc))
is_frame (Mode.GivenRamp Value.Poison) b = inr (λ is. absurd (cc))
is_frame (Mode.GivenRamp (Value.Int w)) b = inr (λ is. absurd (cc))
is_frame Mode.Plain b = inr (λ is. absurd (cc))
is_frame Mode.Ramp b = inr (λ is. absurd (cc))
is_frame Mode.Resumed b = inr (λ is. absurd (cc))
is_frame (Mode.Entering from label) b = inr (λ is. absurd (cc))

-- ---- the activation below

module _ (e : Elision) (t : State) (handles : KeepAllHandles e) (links : AreCalled e t) (v : Option Value)
    (returns : (frame : Value) (number : ℕ) → t.top.mode ≡ Mode.GivenRamp frame → t.top.instance ≡ Some number
    → unwrap_or v Value.Poison ≡ frame) (b : Activation) (rest : List Activation) (below : t.below ≡ b ∷ rest)
    (y : Instance) (number : ℕ) (there : slice_get t.instances number ≡ Some y) where
  abbrev back : Activation
  back = given_back b t.top.result v

  link : (t.top.result ≡ None) ⊎ IsCalledBy e t.top b
  link = (subst (λ (rows : List Activation). AreCalledBy e (t.top ∷ rows)) below links.calls).0

  top_begun : HasBegunIn e t.instances t.top
  top_begun = links.begun.0

  module _ (Over : Type 0) (c : HasKeeper e y number b (Some t.top))
      (old : t.top.instance ≡ None → t.top.mode ≡ Mode.GivenRamp (pointer_to y.block) → ⊥)
      (never : (p : Point) (j : Instr) → StandsAt e b (behind p)
      → slice_get (instrs_of (function_in e b.func) p.block) p.at ≡ Some j
      → is_call_of Intrinsic.CoroDestroy j ≡ true → IsDestroying e y number t.top → Over) where
    abbrev f : Function
    f = function_in e b.func

    keeps : KeepsHandles e b.func
    keeps = handles b.func c.site.plain

    found : instr_at (function_in e b.func) c.call ≡ Some c.instr
    found = instr_found f c.call c.instr c.site.there

    pointed : frame_address_of y ≡ pointer_to y.block
    pointed = λ j. address_in y.block (c.start j)

    set_here : (w : ℕ) → t.top.result ≡ Some w → (w < length b.values) → (x : Value) → unwrap_or v Value.Poison ≡ x
        → value_in back.values w ≡ x
    set_here w is lt x gives =
        ap (λ (o : Option ℕ). value_in (with_result b.values o (unwrap_or v Value.Poison)) w) is
        ∙ (value_here b.values w (unwrap_or v Value.Poison) lt ∙ gives)

    room : (w : ℕ) → t.top.result ≡ Some w → w < length b.values
    room w is = by link
      where
        by : (t.top.result ≡ None) ⊎ IsCalledBy e t.top b → w < length b.values
        by (inl none) = absurd (some_none t.top.result w is none)
        by (inr k) = k.room w is

    other_name : t.top.result ≡ Some c.name → ⊥
    other_name is = by link
      where
        by : (t.top.result ≡ None) ⊎ IsCalledBy e t.top b → ⊥
        by (inl none) = some_none t.top.result c.name is none
        by (inr k) =
            let lt = keeps.once.names k.call k.instr c.name (instr_found f k.call k.instr k.there)
            (sym k.result ∙ is) in
            let at = c.site.is_name in
            absurd (omega (arith, lt, at))

    -- the same call was made again
    again : (w : ℕ) → result_of c.instr ≡ Some w → t.top.result ≡ Some w
        → unwrap_or v Value.Poison ≡ frame_address_of y
    again w is set = by link
      where
        same_instr : (i j : Instr) → Some i ≡ Some j → i ≡ j
        same_instr i j e = cc

        by_instance : t.top.mode ≡ Mode.GivenRamp (pointer_to y.block) → (o : Option ℕ) → t.top.instance ≡ o
            → unwrap_or v Value.Poison ≡ frame_address_of y
        by_instance mode (Some n) own = returns (pointer_to y.block) n mode own ∙ sym pointed
        by_instance mode None own = absurd (old own mode)

        by : (t.top.result ≡ None) ⊎ IsCalledBy e t.top b → unwrap_or v Value.Poison ≡ frame_address_of y
        by (inl none) = absurd (some_none t.top.result w set none)
        by (inr k) =
            let at : instr_at (function_in e b.func) k.call ≡ Some k.instr
            = instr_found f k.call k.instr k.there in
            let one = keeps.once.alone k.call c.call k.instr c.instr w at found (sym k.result ∙ set) is in
            let points : c.call ≡ k.call
            = λ j. record { block = sym one.0 j; at = sym one.1 j } in
            let instrs : c.instr ≡ k.instr
            = same_instr c.instr k.instr (sym found ∙ (ap (instr_at (function_in e b.func)) points ∙ at)) in
            let site : IsSiteOf e b.func k.call k.instr c.name
            = subst (λ (q : Point × Instr). IsSiteOf e b.func q.0 q.1 c.name) (λ j. (points j, instrs j)) c.site in
            by_instance (k.given c.name site ∙ ap Mode.GivenRamp c.address) t.top.instance refl

    handle_on : (w : ℕ) → result_of c.instr ≡ Some w → value_in b.values w ≡ frame_address_of y
        → value_in back.values w ≡ frame_address_of y
    handle_on w is held =
        ⊎_elim (λ set. set_here w set (room w set) (frame_address_of y) (again w is set))
        (λ ne. result_elsewhere b.values t.top.result (unwrap_or v Value.Poison) w ne ∙ held)
        (is_set t.top.result w)

    as_keeper : Keeps e y number c.call c.instr (given_back b t.top.result v) None
        → HasKeeper e y number (given_back b t.top.result v) None
    as_keeper keeps = record {
      call = c.call;
      instr = c.instr;
      name = c.name;
      site = c.site;
      start = c.start;
      address = result_elsewhere b.values t.top.result (unwrap_or v Value.Poison) c.name other_name ∙ c.address;
      slot = c.slot;
      keeps = keeps;
    }

    pub keeper_back : Over ⊎ HasKeeper e y number (given_back b t.top.result v) None
    keeper_back = by (Some t.top) c.keeps refl
      where
        by : (o : Option Activation) → Keeps e y number c.call c.instr b o → o ≡ Some t.top
            → Over ⊎ HasKeeper e y number (given_back b t.top.result v) None
        by _ (Calling d stands func result instance mode) is =
            let same : d ≡ t.top = cc in
            let own_number : t.top.instance ≡ Some number
            = ap (λ (a : Activation). a.instance) (sym same) ∙ instance in
            let own_mode : t.top.mode ≡ Mode.GivenRamp mode.0
            = ap (λ (a : Activation). a.mode) (sym same) ∙ mode.1 in
            let own_result : t.top.result ≡ result_of c.instr
            = ap (λ (a : Activation). a.result) (sym same) ∙ result in
            let address : unwrap_or v Value.Poison ≡ frame_address_of y
            = returns mode.0 number own_mode own_number
            ∙ top_begun.frame mode.0 number y own_mode own_number there in
            inr (as_keeper (Held (behind c.call) None (record { block = stands.block; at = stands.at })
            (called f (destroys_of f (result_of c.instr)) c.call (behind c.call) (next_point f c.call c.instr found))
            (λ w gives.
            set_here w (own_result ∙ gives) (room w (own_result ∙ gives)) (frame_address_of y) address)))
        by _ (Held p o stands reached handle) is =
            inr (as_keeper (Held p None (record { block = stands.block; at = stands.at }) reached
            (λ w gives. handle_on w gives (handle w gives))))
        by _ (Destroying p j w d stands at of result destroys) is =
            let same : d ≡ t.top = cc in
            inl (never p j stands at of (subst (IsDestroying e y number) same destroys))
