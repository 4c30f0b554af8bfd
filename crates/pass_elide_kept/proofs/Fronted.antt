-- While a function makes its new allocas, what stands below it stays as it is, and which frames were given.
use Rattle.std.proofs.Common.{◌≡◌, ◌≤◌, ◌+◌, ◌∙◌, ◌∷◌, ap, sym, refl, subst, arith, ℕ, zero, suc, false, List, [], length, length-append}
use Rattle.std.specs.Prelude.{Some, codes, slice_get}
use Rattle.pass_elide.specs.Elided.{elided_function, function_frames}
use Rattle.pass_elide_proof.proofs.CallersLinks.{calls_on}
use Rattle.pass_elide_proof.proofs.GivingMarkers.{markers_same}
use Rattle.pass_elide_proof.proofs.Making.{HasMade, all_made}
use Rattle.pass_elide_proof.proofs.Modules.{finds_alike}
use Rattle.pass_elide_proof.proofs.MoreBlocks.{given_more}
use Rattle.pass_elide_proof.proofs.Standing.{has_code}
use Rattle.pass_elide_proof.specs.Calling.{IsAtFront}
use Rattle.pass_elide_proof.specs.CallersStack.{AreCalled, AreCalledBy, HasBegunIn}
use Rattle.pass_elide_proof.specs.Elision.{Elision, elided, function_in, function_in_elided, rooms}
use Rattle.pass_elide_proof.specs.Match.{AreElided}
use Rattle.pass_elide_proof.specs.Places.{allocas_ahead}
use Rattle.pass_elide_proof.specs.Stepping.{fronted}
use Rattle.pass_elide_proof.specs.pass_proofs.ir_base.declared.outcome.Outcome.{Outcome}
use Rattle.pass_elide_proof.specs.pass_proofs.ir_model.Names.{numbered}
use Rattle.pass_elide_proof.specs.pass_proofs.ir_model.declared.instr.Instr.{Instr}
use Rattle.pass_elide_proof.specs.pass_proofs.ir_model.declared.module.Function.{Function}
use Rattle.pass_elide_proof.specs.pass_proofs.pass_fetch.Blocks.{numbered_names}
use Rattle.pass_elide_proof.specs.pass_proofs.run_framed.Framed.{is_given}
use Rattle.pass_elide_proof.specs.pass_proofs.run_laws.access.Lines.{StandAt}
use Rattle.pass_elide_proof.specs.pass_proofs.run_laws.changed.Changed.{Each}
use Rattle.pass_elide_proof.specs.pass_proofs.run_memory.declared.pointer.Value.{Value}
use Rattle.pass_elide_proof.specs.pass_proofs.run_source.State.{function_of}
use Rattle.pass_elide_proof.specs.pass_proofs.run_source.declared.state.Activation.{Activation}
use Rattle.pass_elide_proof.specs.pass_proofs.run_source.declared.state.Instance.{Instance}
use Rattle.pass_elide_proof.specs.pass_proofs.run_source.declared.state.Mode.{Mode}
use Rattle.pass_elide_proof.specs.pass_proofs.run_source.declared.state.State.{State}
use Rattle.pass_elide_proof.specs.pass_proofs.run_step.Step.{has_markers}

names_many : (word : List ℕ) (k : ℕ) → length (numbered_names word k) ≡ k
names_many word zero = refl
names_many word (suc k) =
    let rest = names_many word k in
    let long = length-append (numbered_names word k) (numbered word k ∷ []) in
    omega (arith, rest, long)

-- the state behind the new allocas
pub record IsFronted (t u : State) : Type 0 where
  pub below : u.below ≡ t.below
  pub instances : u.instances ≡ t.instances
  pub outcome : u.outcome ≡ t.outcome
  pub func : u.top.func ≡ t.top.func
  pub block : u.top.block ≡ t.top.block
  pub result : u.top.result ≡ t.top.result
  pub mode : u.top.mode ≡ t.top.mode
  pub instance : u.top.instance ≡ t.top.instance
  pub given : (number : ℕ) (y : Instance) → slice_get t.instances number ≡ Some y
      → is_given u.world.memory y ≡ is_given t.world.memory y

module _ (e : Elision) (s t : State) (r : AreElided e s t) (at : IsAtFront e s t) where
  abbrev own : Function
  own = function_in e s.top.func

  abbrev is : List Instr
  is = allocas_ahead (rooms e s.top.func) (function_in e s.top.func)

  runs : t.outcome ≡ Outcome.Running
  runs = r.outcome ∙ at.runs

  same_function : function_of (elided e).given t ≡ elided_function (rooms e s.top.func) (function_in e s.top.func)
  same_function = ap (function_in_elided e) r.top.func ∙ (finds_alike e).functions s.top.func

  plain : (function_of (elided e).given t).coroutine ≡ false
  plain = ap (λ (h : Function). h.coroutine) same_function ∙ at.plain

  stand : StandAt (function_of (elided e).given t) t.top.block t.top.at is
  stand =
      subst (λ (p : Function × (ℕ × ℕ)). StandAt p.0 p.1.0 p.1.1 is)
      (λ j. (sym same_function j, (sym at.other_block j, sym at.other_at j)))
      ((has_code (rooms e s.top.func) own).allocas at.entry at.has_entry)

  unmarked : (v : ℕ) → length own.names ≤ v → has_markers (function_of (elided e).given t) v ≡ false
  unmarked v le =
      ap (λ (h : Function). has_markers h v) same_function ∙ (markers_same v (rooms e s.top.func) own ∙ at.marks v le)

  room : length own.names + length (function_frames (rooms e s.top.func) own) ≤ length t.top.values
  room =
      let names : length (function_in_elided e s.top.func).names
      ≡ length (elided_function (rooms e s.top.func) own).names
      = ap (λ (h : Function). length h.names) ((finds_alike e).functions s.top.func) in
      let more = length-append own.names
      (numbered_names (codes "$c.callee.") (length (function_frames (rooms e s.top.func) own))) in
      let many = names_many (codes "$c.callee.") (length (function_frames (rooms e s.top.func) own)) in
      let others = at.others in
      omega (arith, names, more, many, others)

  made : HasMade (elided e) t runs at.mode plain t.world.memory t.top.values t.top.slots t.top.at (length own.names) is
  made =
      all_made (elided e) t runs at.mode plain (length own.names) (function_frames (rooms e s.top.func) own)
      t.world.memory
      t.top.values t.top.slots t.top.at stand at.aligned unmarked room

  pub is_fronted : IsFronted t (fronted e s t)
  is_fronted =
      subst (IsFronted t) (sym made.comes) (record {
        below = refl;
        instances = refl;
        outcome = refl;
        func = refl;
        block = refl;
        result = refl;
        mode = refl;
        instance = refl;
        given = given_more e s t r made.more;
      })

  -- what activations have by their calls is known still
  pub fronts_known : AreCalled e t → AreCalled e (fronted e s t)
  fronts_known h =
      let k = is_fronted in
      let no_frame : (frame : Value) → (fronted e s t).top.mode ≡ Mode.GivenRamp frame → ⊥
      = λ frame mode. plain_mode frame (sym at.mode ∙ (sym k.mode ∙ mode)) in
      record {
        calls = subst (λ (rows : List Activation). AreCalledBy e ((fronted e s t).top ∷ rows)) (sym k.below)
            (calls_on e t.top (fronted e s t).top t.below k.result
            (λ frame mode. absurd (plain_mode frame (sym at.mode ∙ mode))) h.calls);
        begun =
            subst (λ (q : List Instance × List Activation). Each (HasBegunIn e q.0) ((fronted e s t).top ∷ q.1))
            (λ j. (sym k.instances j, sym k.below j)) (
              record {
                frame = λ frame number x mode own there. absurd (no_frame frame mode);
                value = λ frame number v mode own name. absurd (no_frame frame mode);
              },
              h.begun.1,
            );
      }
    where
      plain_mode : (frame : Value) → Mode.Plain ≡ Mode.GivenRamp frame → ⊥
      plain_mode frame is = absurd (cc)
