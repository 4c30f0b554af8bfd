-- What the rules say of the allocas in front of an entry: each has a name of its own, which is no parameter's.
use Rattle.std.proofs.Common.{◌≡◌, ◌+◌, ◌<◌, ◌≤◌, ◌∙◌, ◌∷◌, [], Bool, List, None, Option, Some, ap, arith, false, inl, inr, length, refl, subst, suc, sym, true, zero, ℕ}
use Rattle.std.specs.Prelude.{map, slice_get, ◌==◌}
use Rattle.pass_frames_steps.specs.flow_solver.Paths.{IsListed}
use Rattle.pass_frames_steps.proofs.ir_laws.facts.Members.{each_turns}
use Rattle.pass_frames_steps.specs.ir_laws.paths.woven_rules.Pairs.{AreDifferent}
use Rattle.pass_frames_steps.specs.ir_model.Layout.{extent_of, extent_or}
use Rattle.pass_frames_steps.specs.ir_model.declared.instr.Instr.{Instr}
use Rattle.pass_frames_steps.specs.ir_model.declared.instr.Terminator.{Terminator}
use Rattle.pass_frames_steps.specs.ir_model.declared.module.Block.{Block}
use Rattle.pass_frames_steps.specs.ir_model.declared.module.Function.{Function}
use Rattle.pass_frames_steps.specs.ir_model.declared.module.Module.{Module}
use Rattle.pass_frames_steps.specs.ir_model.declared.module.Param.{Param}
use Rattle.pass_frames_steps.specs.ir_model.declared.module.TypeItem.{TypeItem}
use Rattle.pass_frames_steps.specs.ir_paths.Windows.{instr_at, instr_in}
use Rattle.pass_frames_steps.specs.ir_paths.declared.point.Point.{Point}
use Rattle.pass_frames_steps.proofs.code.Framed.{entry_made}
use Rattle.pass_frames_proof.proofs.ramps.Aligned.{all_aligned, are_allocas}
use Rattle.pass_frames_proof.proofs.ramps.Behind.{AreEntryAllocas, framed_params}
use Rattle.pass_frames_proof.proofs.ramps.Front.{entry_front}
use Rattle.pass_frames_proof.proofs.ramps.Markers.{entry_name, new_unmarked}
use Rattle.pass_frames_proof.proofs.ramps.Plain.{entry_there}
use Rattle.pass_frames_proof.proofs.ramps.Values.{name_listed}
use Rattle.pass_frames_proof.proofs.returning.Behind.{stand_before}
use Rattle.pass_frames_steps.specs.Entered.{IsAlloca, names_in}
use Rattle.pass_frames_steps.specs.Entering.{front_allocas}
use Rattle.pass_frames_steps.specs.Framings.{IsFraming}
use Rattle.pass_frames_steps.specs.Layers.{woven}
use Rattle.pass_frames_steps.specs.Passes.{block_at}
use Rattle.pass_frames_steps.specs.Places.{Framing, edged, framed, instrs_at, placed_layer}
use Rattle.pass_frames_steps.specs.Ramps.{HasEntryAllocas, IsPlainEntry, entry_stores}
use Rattle.pass_frames_steps.specs.Saving.{HasLowAllocas}
use Rattle.pass_frames_steps.proofs.rule_laws.rules.source_rules.Locals.{no_param, result_below, same_result}
use Rattle.pass_frames_steps.specs.rule_laws.rules.function_rules.Kept.{KeepsFunctionRules}
use Rattle.pass_frames_steps.specs.rule_uses.Undefined.{params_of}
use Rattle.pass_frames_steps.specs.run_laws.access.Lines.{StandAt}
use Rattle.pass_frames_steps.specs.run_laws.changed.Changed.{Each, result_of}
use Rattle.pass_frames_steps.specs.run_step.Step.{AtInstr, fetch_in, fetch_or}

-- ---- what is fetched stands there

got_instr : (o : Option Instr) (b : Bool) (t : Terminator) (i : Instr) → fetch_or o b t ≡ AtInstr i → o ≡ Some i
got_instr (Some j) b t i e = let same : j ≡ i = cc in ap Some same
got_instr None true t i e = absurd (cc)
got_instr None false t i e = absurd (cc)

-- ---- an entry block and instructions of it in a row

module _ (m : Module) (k : ℕ) (f : Function) (rules : KeepsFunctionRules m k f) (c : Block)
    (there : slice_get f.blocks 0 ≡ Some c) where
  abbrev at_entry : ℕ → Point
  at_entry n = record { block = 0; at = n }

  -- from a position on
  abbrev InEntry : ℕ → List Instr → Type 0
  InEntry from js = (i : ℕ) (j : Instr) → slice_get js i ≡ Some j → instr_at f (at_entry (from + i)) ≡ Some j

  shifted : (from : ℕ) (j : Instr) (js : List Instr) → InEntry from (j ∷ js) → InEntry (from + 1) js
  shifted from j js h i u e =
      let same : from + suc i ≡ from + 1 + i = omega arith in
      subst (λ (n : ℕ). instr_at f (at_entry n) ≡ Some u) same (h (suc i) u e)

  in_entry : (from : ℕ) (js : List Instr) → StandAt f 0 from js → InEntry from js
  in_entry from [] s i u e = absurd (cc)
  in_entry from (j ∷ js) s zero u e =
      let same : j ≡ u = cc in
      let at : from + zero ≡ from = omega arith in
      ap (λ (n : ℕ). instr_at f (at_entry n)) at
      ∙ ap (λ (o : Option Block). instr_in o from) there
      ∙ got_instr (slice_get c.instrs from) (from == length c.instrs) c.term j
      (ap (λ (o : Option Block). fetch_in o from) (sym there) ∙ s.0)
      ∙ ap Some same
  in_entry from (j ∷ js) s (suc i) u e =
      let same : from + 1 + i ≡ from + suc i = omega arith in
      subst (λ (n : ℕ). instr_at f (at_entry n) ≡ Some u) same (in_entry (from + 1) js s.1 i u e)

  -- the alloca of a name
  record IsNamed (js : List Instr) (n : ℕ) : Type 0 where
    at : ℕ
    instr : Instr
    stands : slice_get js at ≡ Some instr
    result : result_of instr ≡ Some n

  name_at : (js : List Instr) (ups : Each IsAlloca js) (n : ℕ) → IsListed n (names_in js ups) → IsNamed js n
  name_at [] ups n l = absurd l
  name_at (j ∷ js) ups n (inl e) =
      record { at = 0; instr = j; stands = refl; result = ap result_of ups.0.is ∙ ap Some (sym e) }
  name_at (j ∷ js) ups n (inr l) =
      let more = name_at js ups.1 n l in
      record { at = suc more.at; instr = more.instr; stands = more.stands; result = more.result }

  once_in : (from : ℕ) (js : List Instr) (ups : Each IsAlloca js) → InEntry from js → AreDifferent (names_in js ups)
  once_in from [] ups h = tt
  once_in from (j ∷ js) ups h = (first, once_in (from + 1) js ups.1 (shifted from j js h))
    where
      first : IsListed ups.0.name (names_in js ups.1) → ⊥
      first l =
          let q = name_at js ups.1 ups.0.name l in
          let same : from + 0 ≡ from + suc q.at =
          ap (λ (p : Point). p.at)
          (same_result k f rules.definitions (at_entry (from + 0)) (at_entry (from + suc q.at)) j q.instr ups.0.name
          (h 0 j refl) (h (suc q.at) q.instr q.stands) (ap result_of ups.0.is) q.result) in
          omega (arith, same)

  low_in : (from : ℕ) (js : List Instr) → InEntry from js
      → Each (λ (j : Instr). (a : IsAlloca j) → a.name < length f.names) js
  low_in from [] h = tt
  low_in from (j ∷ js) h = (
    λ a. result_below k f rules.tabled (at_entry (from + 0)) j a.name (h 0 j refl) (ap result_of a.is),
    low_in (from + 1) js (shifted from j js h),
  )

  unset_in : (from : ℕ) (js : List Instr) → InEntry from js
      → Each (λ (j : Instr). (a : IsAlloca j) → IsListed a.name (params_of f) → ⊥) js
  unset_in from [] h = tt
  unset_in from (j ∷ js) h = (
    λ a l. no_param k f rules.definitions (at_entry (from + 0)) j a.name (h 0 j refl) (ap result_of a.is) l,
    unset_in (from + 1) js (shifted from j js h),
  )

-- ---- the framed form

module _ (m : Module) (k : ℕ) (x : Framing) (is : IsFraming x) (e : IsPlainEntry x) (h : HasEntryAllocas m k x) where
  entry : (c : Block) × (slice_get (framed x).blocks 0 ≡ Some c)
  entry = let z = entry_made x (block_at (edged x) 0) (entry_there x is) in (z.0, z.1)

  stands : InEntry m k (framed x) h.rules entry.0 entry.1 0 (front_allocas x)
  stands =
      in_entry m k (framed x) h.rules entry.0 entry.1 0 (front_allocas x)
      (stand_before (framed x) 0 0 (front_allocas x) (entry_stores x) (entry_front x is e).stand)

  allocas : Each IsAlloca (front_allocas x)
  allocas =
      all_aligned m k (framed x) h.rules 0 (front_allocas x) (are_allocas (woven (placed_layer x 0) (instrs_at x 0)))
      stands

  own_low : HasLowAllocas x
  own_low at u align ty there =
      result_below is.position (edged x) is.frameable.rules.tabled (record { block = 0; at = at })
      (Instr.Alloca u ty align) u (ap (λ (o : Option Block). instr_in o at) (entry_there x is) ∙ there) refl

  pub entry_allocas : AreEntryAllocas m x
  entry_allocas = record {
    allocas = allocas;
    once = once_in m k (framed x) h.rules entry.0 entry.1 0 (front_allocas x) allocas stands;
    low = low_in m k (framed x) h.rules entry.0 entry.1 0 (front_allocas x) stands;
    unset =
        each_turns (λ (j : Instr). (a : IsAlloca j) → IsListed a.name (params_of (framed x)) → ⊥)
        (λ (j : Instr). (a : IsAlloca j) (p : Param) → IsListed p (edged x).params → p.name ≡ a.name → ⊥)
        (λ j none a p l same. none a
        (subst (λ (n : ℕ). IsListed n (params_of (framed x))) same
        (subst (λ (ps : List Param). IsListed p.name (map (λ (q : Param). q.name) ps)) (sym (framed_params x))
        (name_listed (edged x).params p l)))) (front_allocas x)
        (unset_in m k (framed x) h.rules entry.0 entry.1 0 (front_allocas x) stands);
    own = own_low;
    unmarked = λ cell name.
        let new : length (edged x).names ≤ cell = (entry_name x cell name).new in
        new_unmarked m k x is h.rules cell new;
    same = λ ty. ap (λ (ts : List TypeItem). (extent_or (extent_of ts ty)).size) h.types;
  }
