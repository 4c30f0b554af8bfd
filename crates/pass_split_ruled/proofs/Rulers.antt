-- The module with the ramps to which calls give frames judges the functions that call them.
use Rattle.std.proofs.Common.{◌≡◌, ℕ, suc, ◌+◌, Bool, true, List, [], ◌∷◌, ◌++◌, ◌⊎◌, inl, inr, length, length-append, map, refl, sym, ap, ◌∙◌, subst, Option, Some, None, arith}
use Rattle.std.proofs.lemmas.List.{length-map}
use Rattle.std.specs.Prelude.{ℤ, is_some, slice_get, unwrap_or, ◌&&◌, ◌||◌}
use Rattle.compiler.proofs.cleanup.accepted.Ramps.{IsRampIn, ramp_at}
use Rattle.compiler.proofs.whole.elided_forms.Ramp.{ramp_is_there}
use Rattle.compiler.specs.cleanup.accepted.Ramps.{given_ramps, with_given_ramps}
use Rattle.pass_split_given.proofs.Ruled.{ruled_calls_kept}
use Rattle.pass_split_given.specs.Premises.{ReleasesWhenDestroyed}
use Rattle.pass_split_given.specs.Whole.{PartsKeepGivenCalls}
use Rattle.pass_split_proof.proofs.given_calls.Ramps.{ramp_of_name}
use Rattle.pass_split_proof.proofs.pass_proofs.ir_laws.facts.Lists.{none_found, of_row}
use Rattle.pass_split_proof.proofs.pass_proofs.ir_laws.facts.Truth.{and_both, not_both}
use Rattle.pass_split_proof.proofs.pass_proofs.ir_laws.facts.same_names.Lists.{what_is_found}
use Rattle.pass_split_proof.proofs.pass_proofs.ir_tables.Tables.{same_name-same}
use Rattle.pass_split_proof.specs.given_begins.Runs.{NestsNoFrames}
use Rattle.pass_split_proof.specs.given_calls.Ramps.{HasCalledRamps}
use Rattle.pass_split_proof.specs.pass_proofs.frame_layout.declared.layout.Layouts.{Layouts}
use Rattle.pass_split_proof.specs.pass_proofs.ir_base.declared.name.Name.{Name}
use Rattle.pass_split_proof.specs.pass_proofs.ir_laws.facts.same_names.Short.{HaveShortNames}
use Rattle.pass_split_proof.specs.pass_proofs.ir_model.Names.{declaration_named, function_at, function_named, global_named, no_function, noalloc_of, same_name}
use Rattle.pass_split_proof.specs.pass_proofs.ir_model.Ty.{Ty, ptr}
use Rattle.pass_split_proof.specs.pass_proofs.ir_model.declared.module.Function.{Function}
use Rattle.pass_split_proof.specs.pass_proofs.ir_model.declared.module.Module.{Module}
use Rattle.pass_split_proof.specs.pass_proofs.ir_model.declared.module.Param.{Param}
use Rattle.pass_split_proof.specs.pass_proofs.pass_split.Given.{has_given_call}
use Rattle.pass_split_proof.specs.pass_proofs.rule_laws.rules.plain_rules.Items.{KeepsItemRules}
use Rattle.pass_split_proof.specs.pass_proofs.rule_names.Known.{knows_name}
use Rattle.pass_split_proof.specs.pass_proofs.rule_names.declared.stage.Stage.{Stage}
use Rattle.pass_split_proof.specs.pass_proofs.run_framed.Framed.{framed_given, given_ramp}
use Rattle.pass_split_proof.specs.ready.Module.{IsFollowableIn}
use Rattle.pass_split_proof.specs.simulation.Statement.{IsRulerOf, parts_given}

-- ---- what it knows besides

module _ (m : Module) where
  abbrev ramps : List Function
  ramps = given_ramps (has_given_call m) m.functions

  given_here : (x : Name) → given_ramp m x ≡ None → (g : Function) → IsRampIn (has_given_call m) m.functions g
      → same_name g.name x ≡ true → ⊥
  given_here x none g i passes =
      not_both (i.source.coroutine && same_name (noalloc_of i.source.name) x)
      (none_found (λ (f : Function). f.coroutine && same_name (noalloc_of f.name) x) m.functions none i.position
      i.source i.stands)
      (and_both i.source.coroutine (same_name (noalloc_of i.source.name) x) i.coroutine
      (ap (λ (f : Function). same_name f.name x) i.is ∙ passes))

  nowhere : (x : Name) → given_ramp m x ≡ None → function_named m x ≡ None → (k : ℕ) (g : Function)
      → same_name g.name x ≡ true
      → (slice_get m.functions k ≡ Some g) ⊎ ((j : ℕ) × ((slice_get ramps j ≡ Some g) × (k ≡ length m.functions + j)))
      → ⊥
  nowhere x none own k g passes (inl e) =
      not_both (same_name g.name x) (none_found (λ (f : Function). same_name f.name x) m.functions own k g e) passes
  nowhere x none own k g passes (inr r) =
      given_here x none g (ramp_at (has_given_call m) m.functions r.0 g r.1.0) passes

  known : (x : Name) → given_ramp m x ≡ None → knows_name (with_given_ramps m) x ≡ true → knows_name m x ≡ true
  known x none knows = on (function_named m x) refl (function_named (with_given_ramps m) x) refl knows
    where
      on : (o : Option ℕ) → function_named m x ≡ o → (p : Option ℕ) → function_named (with_given_ramps m) x ≡ p
          → (is_some p || (is_some (declaration_named m x) || is_some (global_named m x))) ≡ true
          → (is_some o || (is_some (declaration_named m x) || is_some (global_named m x))) ≡ true
      on (Some j) e p f d = refl
      on None e None f d = d
      on None e (Some k) f d =
          let w = what_is_found (λ (g : Function). same_name g.name x) (with_given_ramps m).functions k f in
          absurd (nowhere x none e k w.element w.passes (of_row m.functions ramps k w.element w.stands))

  pub ramps_rule : IsRulerOf (with_given_ramps m) m
  ramps_rule = record { types = refl; globals = refl; known = known }

-- ---- the ramps that are called

one_more : (ts us : List Ty) → ts ≡ us ++ ptr ∷ [] → length ts ≡ suc (length us)
one_more ts us e = ap length e ∙ length-append us (ptr ∷ []) ∙ after (length us)
  where
    after : (n : ℕ) → n + 1 ≡ suc n
    after n = omega arith

module _ (m : Module) (items : KeepsItemRules Stage.Source m) (short : HaveShortNames m) where
  pub called_ramps : HasCalledRamps (with_given_ramps m) m
  called_ramps = record { ramps = there }
    where
      there : (x : Name) (k : ℕ) → given_ramp m x ≡ Some k → has_given_call m (function_at m k) ≡ true
          → (j : ℕ) × ((function_named (with_given_ramps m) x ≡ Some j)
          × (length (function_at (with_given_ramps m) j).params ≡ suc (length (function_at m k).params)))
      there x k gives called =
          let own = ramp_of_name m x k gives in
          let s = ramp_is_there m items short k (function_at m k) own.there own.coroutine called in
          let same : noalloc_of (function_at m k).name ≡ x
          = same_name-same (noalloc_of (function_at m k).name) x own.named in
          let is : function_at (with_given_ramps m) s.position ≡ s.function
          = ap (λ (o : Option Function). unwrap_or o no_function) s.stands in (
            s.position,
            (
              subst (λ (y : Name). function_named (with_given_ramps m) y ≡ Some s.position) same s.is_named,
              ap (λ (f : Function). length f.params) is
                  ∙ sym (length-map s.function.params (λ (p : Param). p.ty))
                  ∙ one_more (map (λ (p : Param). p.ty) s.function.params)
                  (map (λ (p : Param). p.ty) (function_at m k).params) s.has_params
                  ∙ ap suc (length-map (function_at m k).params (λ (p : Param). p.ty)),
            ),
          )

-- ---- so calls that give frames are kept

pub ramps_keep : (stage : Stage) (ls : Layouts) (m : Module) → KeepsItemRules Stage.Source m → HaveShortNames m
    → IsFollowableIn stage (with_given_ramps m) ls m
    → ((answers : List ℤ) → NestsNoFrames (framed_given m ls.coroutines answers))
    → ((answers : List ℤ) → ReleasesWhenDestroyed (framed_given m ls.coroutines answers) (parts_given ls m answers))
    → PartsKeepGivenCalls ls m
ramps_keep stage ls m items short w nests releases =
    ruled_calls_kept ls m w (called_ramps m items short) nests releases
