-- The activation that keeps a handle keeps it where the stack changes.
use Rattle.std.proofs.Common.{◌≡◌, ◌∙◌, ◌∷◌, [], ap, arith, inl, inr, List, Option, refl, subst, sym, ℕ}
use Rattle.std.specs.List.{Contains}
use Rattle.std.specs.Prelude.{IsFalse, None, Some}
use Rattle.elide_sites.specs.Sites.{destroys_of}
use Rattle.pass_elide_kept.specs.Kept.{Calling, Destroying, HasKeeper, Held, IsKeptIn, Keeps}
use Rattle.pass_elide_proof.proofs.CallersOnward.{destroys_as, held_apart, instr_found}
use Rattle.pass_elide_proof.proofs.Holding.{on}
use Rattle.pass_elide_proof.proofs.Stacks.{KeepsHead, destroys_on}
use Rattle.pass_elide_proof.specs.Callers.{MovesOn}
use Rattle.pass_elide_proof.specs.Calling.{DestroysHandles}
use Rattle.pass_elide_proof.specs.Elision.{Elision, function_in}
use Rattle.pass_elide_proof.specs.Invariant.{IsDestroying, IsSiteOf}
use Rattle.pass_elide_proof.specs.pass_proofs.flow_points.Reached.{IsReached}
use Rattle.pass_elide_proof.specs.pass_proofs.ir_model.declared.instr.Instr.{Instr}
use Rattle.pass_elide_proof.specs.pass_proofs.ir_model.declared.module.Function.{Function}
use Rattle.pass_elide_proof.specs.pass_proofs.ir_parts.Contents.{result_of}
use Rattle.pass_elide_proof.specs.pass_proofs.ir_paths.Paths.{has_point}
use Rattle.pass_elide_proof.specs.pass_proofs.ir_paths.declared.point.Point.{Point}
use Rattle.pass_elide_proof.specs.pass_proofs.run_memory.declared.pointer.Value.{Value}
use Rattle.pass_elide_proof.specs.pass_proofs.run_source.State.{address_in}
use Rattle.pass_elide_proof.specs.pass_proofs.run_source.declared.state.Activation.{Activation}
use Rattle.pass_elide_proof.specs.pass_proofs.run_source.declared.state.Instance.{Instance}
use Rattle.pass_elide_proof.specs.pass_proofs.run_source.declared.state.Mode.{Mode}
use Rattle.pass_elide_proof.specs.pass_proofs.run_step.Values.{pointer_to}

-- ---- the instance, with another status

module _ (e : Elision) (x y : Instance) (number : ℕ) (coroutine : y.coroutine ≡ x.coroutine)
    (block : y.block ≡ x.block) (start : y.start ≡ x.start) where
  keeps_as : (call : Point) (i : Instr) (c : Activation) (above : Option Activation)
      → Keeps e x number call i c above → Keeps e y number call i c above
  keeps_as call i c _ (Calling d stands func result instance mode) =
      Calling d stands (func ∙ sym coroutine) result instance mode
  keeps_as call i c _ (Held p above stands reached handle) =
      Held p above stands reached (λ v is. handle v is ∙ (λ j. address_in (sym block j) (sym start j)))
  keeps_as call i c _ (Destroying p j v d stands there destroys result of) =
      Destroying p j v d stands there destroys result (destroys_as e x y number coroutine block start d of)

  keeper_as : (c : Activation) (above : Option Activation) → HasKeeper e x number c above
      → HasKeeper e y number c above
  keeper_as c above h = record {
    call = h.call;
    instr = h.instr;
    name = h.name;
    site = h.site;
    start = start ∙ h.start;
    address = h.address ∙ (λ j. pointer_to (sym block j));
    slot = subst (λ (b : ℕ). Contains c.slots (record { alloca = h.name; block = b })) (sym block) h.slot;
    keeps = keeps_as h.call h.instr c above h.keeps;
  }

  pub kept_as : (above : Option Activation) (rows : List Activation) → IsKeptIn e x number above rows
      → IsKeptIn e y number above rows
  kept_as above [] h = h
  kept_as above (c ∷ below) (inl k) = inl (keeper_as c above k)
  kept_as above (c ∷ below) (inr k) = inr (kept_as (Some c) below k)

-- ---- the one right above

-- it is the same call
pub record IsSameCall (c d : Activation) : Type 0 where
  pub func : d.func ≡ c.func
  pub result : d.result ≡ c.result
  pub instance : (number : ℕ) → c.instance ≡ Some number → d.instance ≡ Some number
  pub mode : (frame : Value) → c.mode ≡ Mode.GivenRamp frame → d.mode ≡ Mode.GivenRamp frame

module _ (e : Elision) (y : Instance) (number : ℕ) (c d : Activation) (same : IsSameCall c d)
    (destroys : IsDestroying e y number c → IsDestroying e y number d) where
  keeps_under : (call : Point) (i : Instr) (b : Activation) (above : Option Activation) → above ≡ Some c
      → Keeps e y number call i b above → Keeps e y number call i b (Some d)
  keeps_under call i b _ is (Calling x stands func result instance mode) =
      let one : x ≡ c = cc in
      Calling d stands (same.func ∙ (ap (λ (a : Activation). a.func) (sym one) ∙ func))
      (same.result ∙ (ap (λ (a : Activation). a.result) (sym one) ∙ result))
      (same.instance number (ap (λ (a : Activation). a.instance) (sym one) ∙ instance))
      (mode.0, same.mode mode.0 (ap (λ (a : Activation). a.mode) (sym one) ∙ mode.1))
  keeps_under call i b _ is (Held p above stands reached handle) = Held p (Some d) stands reached handle
  keeps_under call i b _ is (Destroying p j v x stands there of result x_destroys) =
      let one : x ≡ c = cc in
      Destroying p j v d stands there of result (destroys (subst (IsDestroying e y number) one x_destroys))

  pub kept_under : (below : List Activation) → IsKeptIn e y number (Some c) below
      → IsKeptIn e y number (Some d) below
  kept_under [] h = h
  kept_under (b ∷ below) (inl k) = inl (record {
    call = k.call;
    instr = k.instr;
    name = k.name;
    site = k.site;
    start = k.start;
    address = k.address;
    slot = k.slot;
    keeps = keeps_under k.call k.instr b (Some c) refl k.keeps;
  })
  kept_under (b ∷ below) (inr k) = inr k

-- ---- the topmost keeps it, and goes on in its function

module _ (e : Elision) (c d : Activation) (p q : Point) (func : d.func ≡ c.func) (moves : MovesOn e c d p q)
    (destroyed : DestroysHandles e c.func) where
  abbrev f : Function
  f = function_in e c.func

  -- where it keeps it no destroy stands
  pub keeper_moves : (y : Instance) (number : ℕ) (h : HasKeeper e y number c None)
      → IsFalse (has_point (destroys_of (function_in e c.func) (result_of h.instr)) p) → (above : Option Activation)
      → HasKeeper e y number d above
  keeper_moves y number h still above = record {
    call = h.call;
    instr = h.instr;
    name = h.name;
    site = subst (λ (n : ℕ). IsSiteOf e n h.call h.instr h.name) (sym func) h.site;
    start = h.start;
    address = let is = h.site.is_name in moves.added h.name (omega (arith, is)) ∙ h.address;
    slot = moves.slots _ h.slot;
    keeps = by None h.keeps refl;
  }
    where
      by : (o : Option Activation) → Keeps e y number h.call h.instr c o → o ≡ None
          → Keeps e y number h.call h.instr d above
      by _ (Calling x stands is_func result instance mode) none = absurd (cc)
      by _ (Destroying r j v x stands there of result destroys) none = absurd (cc)
      by _ (Held r o at_r reached handle) none =
          let same = moves.stands r at_r in
          let here : r ≡ p = λ j. record { block = same.0 j; at = same.1 j } in
          let reached_p : IsReached f (h.call ∷ []) (destroys_of f (result_of h.instr)) p
          = subst (λ (x : Point). IsReached f (h.call ∷ []) (destroys_of f (result_of h.instr)) x) here reached in
          let apart = held_apart e c.func destroyed h.call h.instr h.name p h.site reached_p in
          Held q above moves.behind
          (subst (λ (n : ℕ). IsReached (function_in e n) (h.call ∷ []) (destroys_of (function_in e n)
          (result_of h.instr)) q) (sym func)
          (on f (h.call ∷ []) (destroys_of f (result_of h.instr)) p q reached_p still moves.next))
          (λ v is. moves.handles h.call h.instr v (instr_found f h.call h.instr h.site.there) is apart ∙ handle v is)

-- ---- one row changes

pub kept_top : (e : Elision) (y : Instance) (number : ℕ) (c d : Activation) (below : List Activation)
    → (HasKeeper e y number c None → HasKeeper e y number d None) → IsSameCall c d
    → (IsDestroying e y number c → IsDestroying e y number d)
    → IsKeptIn e y number None (c ∷ below) → IsKeptIn e y number None (d ∷ below)
kept_top e y number c d below to same destroys (inl k) = inl (to k)
kept_top e y number c d below to same destroys (inr k) =
    inr (kept_under e y number c d same destroys below k)

-- another one comes on top
pub kept_pushed : (e : Elision) (y : Instance) (number : ℕ) (c d new : Activation) (below : List Activation)
    → (HasKeeper e y number c None → HasKeeper e y number d (Some new)) → KeepsHead c d
    → IsKeptIn e y number None (c ∷ below) → IsKeptIn e y number None (new ∷ d ∷ below)
kept_pushed e y number c d new below to same (inl k) = inr (inl (to k))
kept_pushed e y number c d new below to same (inr k) =
    inr (inr (kept_under e y number c d (record {
      func = same.func;
      result = same.result;
      instance = λ n is. same.instance ∙ is;
      mode = λ frame is. same.mode ∙ is;
    }) (destroys_on e [] y number c d same) below k))
