-- The framed run asks for the frame's size while the other run waits.
use Rattle.std.proofs.Common.{◌≡◌, ◌≢◌, ◌+◌, inl, inr, ⊎_elim, ℕ, zero, suc, Bool, true, false, List, [], ◌∷◌, length, Ok, refl, sym, ap, ◌∙◌, subst, arith, ◌&&◌, ◌||◌}
use Rattle.std.proofs.lemmas.List.{length-set}
use Rattle.std.specs.Option.{option_map_or}
use Rattle.std.specs.Prelude.{None, Option, Some, if◌then◌else◌, pos}
use Rattle.pass_elide_proof.specs.Counts.{capped, given_frames}
use Rattle.pass_elide_proof.specs.Elision.{Elision, differs_in, framed, function_in, rooms}
use Rattle.pass_elide_proof.specs.Places.{allocas_ahead}
use Rattle.pass_elide_proof.specs.Match.{AreActivations, AreAsked, AreElided, AreNamed, AreReleased, HasAlloca, HasAllocas, HoldApart, HoldsBlock, Sides, Waiting, held_blocks, held_name, holds_one, instance_in, is_given_mode, sides, was_given}
use Rattle.pass_elide_proof.specs.Sizes.{IsAtMade, IsAtSize}
use Rattle.pass_proofs.specs.ir_base.declared.outcome.Outcome.{Outcome}
use Rattle.pass_proofs.specs.ir_model.Ty.{Ty}
use Rattle.pass_proofs.specs.ir_model.declared.instr.Instr.{Instr}
use Rattle.pass_proofs.specs.ir_model.declared.operand.Arg.{Arg}
use Rattle.pass_proofs.specs.ir_model.declared.operand.Callee.{Callee}
use Rattle.pass_proofs.specs.ir_model.declared.operand.Intrinsic.{Intrinsic}
use Rattle.pass_proofs.specs.run_framed.Framed.{FramedGiven, framed_advance, framed_next, framed_step, is_given}
use Rattle.pass_proofs.specs.run_laws.changed.Changed.{Each}
use Rattle.pass_proofs.specs.run_laws.memory.Pointers.{IsValue}
use Rattle.pass_proofs.specs.run_memory.declared.pointer.Value.{Value}
use Rattle.pass_proofs.specs.run_source.State.{function_of, gives, or_undefined, own_frame}
use Rattle.pass_proofs.specs.run_source.declared.state.State.{State}
use Rattle.pass_proofs.specs.run_step.Step.{AtInstr, Fetched, fetch}
use Rattle.pass_proofs.specs.run_step.Values.{Env, integer, value_in, with_result, with_value}
use Rattle.pass_proofs.specs.run_step.declared.world.Slot.{Slot}

-- ---- names that aren't set

pub other_value : (env : Env) (v u : ℕ) (w : Value) → u ≢ v → value_in (with_value env v w) u ≡ value_in env u
other_value [] v u w ne = refl
other_value (a ∷ rs) zero zero w ne = absurd (ne refl)
other_value (a ∷ rs) zero (suc u) w ne = refl
other_value (a ∷ rs) (suc v) zero w ne = refl
other_value (a ∷ rs) (suc v) (suc u) w ne = other_value rs v u w (λ e. ne (ap suc e))

pub other_result : (env : Env) (result : Option ℕ) (u : ℕ) (w : Value) → ((v : ℕ) → result ≡ Some v → u ≢ v)
    → value_in (with_result env result w) u ≡ value_in env u
other_result env None u w ne = refl
other_result env (Some v) u w ne = other_value env v u w (ne v refl)

pub result_long : (env : Env) (result : Option ℕ) (w : Value) → length (with_result env result w) ≡ length env
result_long env None w = refl
result_long env (Some v) w = length-set env v (Some w)

-- ---- the step

-- what a step gives by what stands at the place
pub stepped : (g : FramedGiven) (s u : State) (x : Fetched) → s.outcome ≡ Outcome.Running
    → fetch (function_of g.given s) s.top.block s.top.at ≡ x → framed_next g s x ≡ Ok u → framed_step g s ≡ u
stepped g s u x runs there next =
    ap (framed_advance g s) runs ∙ ap (or_undefined g.given s) (ap (framed_next g s) there ∙ next)

-- a name that is set is one of those made there
module _ (e : Elision) (s t : State) (result : Option ℕ) (w : Value) (r : AreElided e s t)
    (at : IsAtMade e s t result w) where
  abbrev d : Sides
  d = sides s t

  abbrev f : ℕ
  f = s.top.func

  -- a given ramp is one whose frame was given
  was : was_given d t.top ≡ true
  was =
      ap (λ (b : Bool). if b then true
      else option_map_or (is_given d.other) (instance_in d.second t.top.instance) false) at.given

  abbrev u : State
  u = gives s result w

  -- the name that is set differs
  differ : (need made rest ramp : Bool) → ramp ≡ true → made ≡ true → ((ramp && (need || made)) || rest) ≡ false → ⊥
  differ true made rest true x y h = absurd (cc)
  differ false true rest true x y h = absurd (cc)
  differ false false rest true x y h = absurd (cc)
  differ need made rest false x y h = absurd (cc)

  unset : (v : ℕ) → differs_in (e.shape f) (is_given_mode t.top.mode) (was_given d t.top) v ≡ false → (n : ℕ)
      → result ≡ Some n → v ≢ n
  unset v h n is same =
      differ ((e.shape f).need v) ((e.shape f).made v) _ (is_given_mode t.top.mode) at.given
      (ap (e.shape f).made same ∙ (at.made n is).made) h

  named : AreNamed e r.homes (was_given d t.top) u.top t.top
  named = record {
    each = λ v h.
        subst (λ (x : Value). IsValue r.homes x (value_in t.top.values v))
        (sym (other_result s.top.values result v w (unset v h))) (r.top.values.each v h);
    room =
        let long = result_long s.top.values result w in
        let old = r.top.values.room in
        omega (arith, long, old);
  }

  -- what coro.alloc and coro.free gave is as it was
  yes_no : (p : Bool) → p ≡ true → p ≡ false → ⊥
  yes_no true y n = absurd (cc)
  yes_no false y n = absurd (cc)

  some_none : {A : Type 0} (o : Option A) (q : A) → o ≡ Some q → o ≡ None → ⊥
  some_none None q y n = absurd (cc)
  some_none (Some p) q y n = absurd (cc)

  same_need : (v : ℕ) → (e.shape f).need v ≡ true → value_in u.top.values v ≡ value_in s.top.values v
  same_need v is = other_result s.top.values result v w
      (λ n set same. yes_no ((e.shape f).need v) is (ap (e.shape f).need same ∙ (at.made n set).need))

  same_freed : (v : ℕ) → (e.shape f).freed v ≡ true → value_in u.top.values v ≡ value_in s.top.values v
  same_freed v is = other_result s.top.values result v w
      (λ n set same. yes_no ((e.shape f).freed v) is (ap (e.shape f).freed same ∙ (at.made n set).freed))

  same_tested : (v : ℕ) (p : Bool) → (e.shape f).tested v ≡ Some p → value_in u.top.values v
      ≡ value_in s.top.values v
  same_tested v p is = other_result s.top.values result v w
      (λ n set same. some_none ((e.shape f).tested v) p is (ap (e.shape f).tested same ∙ (at.made n set).tested))

  asked : is_given_mode t.top.mode ≡ true → AreAsked (e.shape f) u.top t.top
  asked ramp v is = ⊎_elim (λ none. inl (same_need v is ∙ none))
      (λ both. inr (same_need v is ∙ both.0, both.1)) (r.top.asked ramp v is)

  released : was_given d t.top ≡ true → AreReleased (e.shape f) d u.top t.top
  released given = record {
    freed = λ v is. ⊎_elim (λ none. inl (same_freed v is ∙ none))
        (λ both. inr (both.0, (both.1.0, both.1.1, same_freed v is ∙ both.1.2))) ((r.top.released given).freed v is);
    tested = λ v p is. ⊎_elim (λ none. inl (same_tested v p is ∙ none))
        (λ both. inr (same_tested v p is ∙ both.0, both.1)) ((r.top.released given).tested v p is);
  }

  allocas : (own : List Slot) → HasAllocas e r.homes r.hides d s.top t.top own
      → HasAllocas e r.homes r.hides d u.top t.top own
  allocas own (inl first) =
      let empty : length own ≡ 0 = ap length first.2 in
      let none : length (allocas_ahead (rooms e f) (function_in e f)) ≡ 0 = ap length at.none in
      inr (
        subst (λ (is : List Instr). Each (HasAlloca r.homes r.hides d t.top own) is) (sym at.none) tt,
        empty ∙ sym none,
      )
  allocas own (inr made) = inr made

  -- what the activation holds is as it was
  held_by : (o : Option ℕ) → (e.shape f).holds s.top.block s.top.at ≡ o
      → HoldsBlock r.hides d.memory s.top o → HoldsBlock r.hides d.memory u.top o
  held_by None is h = tt
  held_by (Some name) is h = record {
    block = h.block;
    size = h.size;
    address = other_result s.top.values result name w (λ v set. at.kept v name set is) ∙ h.address;
    hidden = h.hidden;
    there = h.there;
  }

  held : (b : Bool) → b ≡ true → HoldsBlock r.hides d.memory s.top (held_name e b s.top)
      → HoldsBlock r.hides d.memory u.top (held_name e b u.top)
  held true holds h =
      subst (λ (o : Option ℕ). HoldsBlock r.hides d.memory u.top o) (sym at.holds)
      (held_by ((e.shape f).holds s.top.block s.top.at) refl h)
  held false holds h = absurd (cc)

  top : AreActivations e r.homes r.hides d u.top t.top
  top = record {
    func = r.top.func;
    result = r.top.result;
    instance = r.top.instance;
    has_left = r.top.has_left;
    mode = r.top.mode;
    place = Waiting at.given at.waits at.stays;
    values = named;
    asked = asked;
    released = released;
    own = r.top.own;
    slots = r.top.slots;
    allocas = allocas r.top.own r.top.allocas;
    held = held (is_given_mode t.top.mode) at.given r.top.held;
  }

  -- the name of the held block is the same
  same_held : (b : Bool) → held_name e b u.top ≡ held_name e b s.top
  same_held true = at.holds
  same_held false = refl

  same_block : (b : Bool) (name : ℕ) → b ≡ true → held_name e b s.top ≡ Some name
      → value_in u.top.values name ≡ value_in s.top.values name
  same_block true name holds is = other_result s.top.values result name w (λ v set. at.kept v name set is)
  same_block false name holds is = absurd (cc)

  once : HoldApart e (u.top ∷ s.below) (t.top ∷ t.below)
  once zero zero p q a b c h ne ea eb ec ed ha hb same = ne refl
  once zero (suc k) p q a b c h ne ea eb ec ed ha hb same =
      let first : u.top ≡ a = cc in
      let given : t.top ≡ c = cc in
      let old : held_name e (is_given_mode t.top.mode) s.top ≡ Some p
      = sym (same_held (is_given_mode t.top.mode))
      ∙ ((λ j. held_name e (is_given_mode (given j).mode) (first j)) ∙ ha) in
      let value : value_in s.top.values p ≡ value_in a.values p
      = sym (same_block (is_given_mode t.top.mode) p at.given old) ∙ (λ j. value_in (first j).values p) in
      r.once zero (suc k) p q s.top b t.top h ne refl eb refl ed old hb (value ∙ same)
  once (suc j) zero p q a b c h ne ea eb ec ed ha hb same =
      let first : u.top ≡ b = cc in
      let given : t.top ≡ h = cc in
      let old : held_name e (is_given_mode t.top.mode) s.top ≡ Some q
      = sym (same_held (is_given_mode t.top.mode))
      ∙ ((λ j. held_name e (is_given_mode (given j).mode) (first j)) ∙ hb) in
      let value : value_in s.top.values q ≡ value_in b.values q
      = sym (same_block (is_given_mode t.top.mode) q at.given old) ∙ (λ j. value_in (first j).values q) in
      r.once (suc j) zero p q a s.top c t.top ne ea refl ec refl ha old (same ∙ sym value)
  once (suc j) (suc k) p q a b c h ne ea eb ec ed ha hb same =
      r.once (suc j) (suc k) p q a b c h ne ea eb ec ed ha hb same

  allocs : s.world.allocs
      ≡ capped (t.world.allocs + (given_frames t + held_blocks e (u.top ∷ s.below) (t.top ∷ t.below)))
  allocs =
      r.allocs
      ∙ ap (λ (o : Option ℕ). capped (t.world.allocs + (given_frames t +
      (holds_one o + held_blocks e s.below t.below))))
      (sym (same_held (is_given_mode t.top.mode)))

  beside : AreElided e u t
  beside = record {
    homes = r.homes;
    hides = r.hides;
    world = r.world;
    known = r.known;
    globals = r.globals;
    hidden = r.hidden;
    mates = r.mates;
    count = r.count;
    instances = r.instances;
    top = top;
    below = r.below;
    once = once;
    allocs = allocs;
    outcome = r.outcome;
  }

  pub made_waits : AreElided e (framed_step (framed e) s) t
  made_waits =
      subst (λ (v : State). AreElided e v t)
      (sym (stepped (framed e) s (gives s result w) (fetch (function_of (framed e).given s) s.top.block s.top.at)
      at.runs refl at.goes)) beside

-- ---- the frame's size

module _ (e : Elision) (s t : State) (i : Intrinsic) (result : Option ℕ) (must_tail : Bool) (ty : Option Ty)
    (args : List Arg) (r : AreElided e s t) (at : IsAtSize e s t i result must_tail ty args) where
  abbrev call : Intrinsic → Fetched
  call j = AtInstr (Instr.Call result must_tail ty (Callee.Intrinsic j) args)

  abbrev GivesSize : Intrinsic → Type 0
  GivesSize j = (w : Value) × (framed_next (framed e) s (call j) ≡ Ok (gives s result w))

  size_32 : GivesSize Intrinsic.CoroSizeI32
  size_32 = (integer 32 (pos (own_frame (framed e).given s).size), refl)

  size_64 : GivesSize Intrinsic.CoroSizeI64
  size_64 = (integer 64 (pos (own_frame (framed e).given s).size), refl)

  size_given : GivesSize i
  size_given = ⊎_elim (λ is. subst GivesSize (sym is) size_32) (λ is. subst GivesSize (sym is) size_64) at.size

  pub waits : AreElided e (framed_step (framed e) s) t
  waits =
      made_waits e s t result size_given.0 r (record {
        runs = at.runs;
        goes = ap (framed_next (framed e) s) at.there ∙ size_given.1;
        given = at.given;
        waits = at.waits;
        stays = at.stays;
        none = at.none;
        made = at.made;
        holds = at.holds;
        kept = at.kept;
      })
