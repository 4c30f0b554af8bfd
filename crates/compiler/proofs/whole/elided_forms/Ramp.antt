-- The ramp that a call gives a frame is found by its name in the module with such ramps.
use Rattle.std.proofs.Common.{◌≡◌, ℕ, zero, suc, ◌+◌, Bool, true, false, List, [], ◌∷◌, ◌++◌, ◌⊎◌, inl, inr, length, refl, sym, ap, ◌∙◌, subst, Option, Some, None}
use Rattle.std.proofs.lemmas.List.{map-append}
use Rattle.std.specs.Prelude.{codes, map, slice_get, if◌then◌else◌, ◌&&◌}
use Rattle.compiler.proofs.cleanup.accepted.Ramps.{IsRampIn, ramp_at}
use Rattle.compiler.specs.cleanup.accepted.Ramps.{called_ramp, given_ramps, with_given_ramps}
use Rattle.ir_base.specs.declared.name.Name.{Name}
use Rattle.ir_model.specs.Names.{function_named, noalloc_of, same_name}
use Rattle.ir_model.specs.Ty.{ptr}
use Rattle.ir_model.specs.declared.module.Function.{Function}
use Rattle.ir_model.specs.declared.module.Module.{Module}
use Rattle.ir_model.specs.declared.module.Param.{Param}
use Rattle.pass_split.specs.Given.{has_given_call}
use Rattle.pass_proofs.proofs.ir_laws.facts.Lists.{StandsIn, none_found, of_row, of_second}
use Rattle.pass_proofs.proofs.ir_laws.facts.Truth.{not_both, same_name-itself}
use Rattle.pass_proofs.proofs.ir_laws.facts.same_names.Lists.{what_is_found}
use Rattle.pass_proofs.proofs.ir_tables.Tables.{same_name-same}
use Rattle.pass_proofs.proofs.rule_laws.rules.plain_rules.Once.{once_at}
use Rattle.pass_proofs.proofs.rule_laws.rules.same_names.Made.{free_name, not_part}
use Rattle.pass_proofs.proofs.rule_laws.rules.same_names.Spellings.{OfNoalloc, parts_alike}
use Rattle.pass_proofs.specs.ir_laws.facts.same_names.Short.{HaveShortNames}
use Rattle.pass_proofs.specs.rule_laws.frames.same_names.Parts.{HasSignature}
use Rattle.pass_proofs.specs.rule_laws.rules.plain_rules.Items.{KeepsItemRules}
use Rattle.pass_proofs.specs.rule_names.declared.stage.Stage.{Stage}

-- ---- the ramp stands there

ramp_in : (given : Function → Bool) (fs : List Function) (k : ℕ) (f : Function) → slice_get fs k ≡ Some f
    → f.coroutine ≡ true → given f ≡ true → StandsIn (given_ramps given fs) (called_ramp f)
ramp_in given [] k f e c b = absurd (cc)
ramp_in given (x ∷ fs) zero f e c b =
    let is_one : x ≡ f = cc in
    subst (λ (y : Function). StandsIn (given_ramps given (y ∷ fs)) (called_ramp f)) (sym is_one)
    (here f.coroutine (given f) c b)
  where
    here : (c b : Bool) → c ≡ true → b ≡ true
        → StandsIn ((if c && b then called_ramp f ∷ [] else []) ++ given_ramps given fs) (called_ramp f)
    here true true d e = record { at = 0; is = refl }
    here true false d e = absurd (cc)
    here false b d e = absurd (cc)
ramp_in given (x ∷ fs) (suc k) f e c b =
    of_second (if x.coroutine && given x then called_ramp x ∷ [] else []) (given_ramps given fs) (called_ramp f)
    (ramp_in given fs k f e c b)

-- ---- what is found by its name

module _ (m : Module) (items : KeepsItemRules Stage.Source m) (short : HaveShortNames m) (q : ℕ) (g : Function)
    (there : slice_get m.functions q ≡ Some g) (coroutine : g.coroutine ≡ true)
    (given : has_given_call m g ≡ true) where
  abbrev ramps : List Function
  ramps = given_ramps (has_given_call m) m.functions

  abbrev name : Name
  name = noalloc_of g.name

  -- the positions of a coroutine's name are one
  same_source : (k : ℕ) (f : Function) → slice_get m.functions k ≡ Some f → f.name ≡ g.name → f ≡ g
  same_source k f here e =
      let both : Some k ≡ Some q =
      sym (once_at m k f.name (items.names.once k f here)).function ∙ ap (function_named m) e
      ∙ (once_at m q g.name (items.names.once q g there)).function in
      let same : k ≡ q = cc in
      let twice : Some f ≡ Some g = sym here ∙ ap (slice_get m.functions) same ∙ there in
      cc

  of_ramp : (f : Function) → IsRampIn (has_given_call m) m.functions f → f.name ≡ name → called_ramp g ≡ f
  of_ramp f r e =
      let part : noalloc_of r.source.name ≡ name = ap (λ (h : Function). h.name) r.is ∙ e in
      let alike : r.source.name ≡ g.name =
      parts_alike r.source.name g.name (codes ".noalloc") (codes ".noalloc") OfNoalloc OfNoalloc
      (short r.position r.source r.stands) (short q g there)
      ((free_name m items.names r.position r.source r.stands).is_usual r.coroutine)
      ((free_name m items.names q g there).is_usual coroutine) part in
      ap called_ramp (sym (same_source r.position r.source r.stands alike)) ∙ r.is

  is_ramp : (k : ℕ) (f : Function) → same_name f.name name ≡ true
      → (slice_get m.functions k ≡ Some f) ⊎ ((j : ℕ) × ((slice_get ramps j ≡ Some f) × (k ≡ length m.functions + j)))
      → called_ramp g ≡ f
  is_ramp k f passes (inl e) =
      absurd (not_part m f.name (free_name m items.names k f e).is_no_part q g there coroutine (codes ".noalloc") OfNoalloc
      (sym (same_name-same f.name name passes)))
  is_ramp k f passes (inr r) =
      of_ramp f (ramp_at (has_given_call m) m.functions r.0 f r.1.0) (same_name-same f.name name passes)

  pub ramp_is_there : HasSignature (with_given_ramps m) name g.result (map (λ p. p.ty) g.params ++ ptr ∷ [])
  ramp_is_there = on (function_named (with_given_ramps m) name) refl
    where
      stands : StandsIn (with_given_ramps m).functions (called_ramp g)
      stands =
          of_second m.functions ramps (called_ramp g)
          (ramp_in (has_given_call m) m.functions q g there coroutine given)

      on : (o : Option ℕ) → function_named (with_given_ramps m) name ≡ o
          → HasSignature (with_given_ramps m) name g.result (map (λ p. p.ty) g.params ++ ptr ∷ [])
      on None e =
          absurd (not_both (same_name name name)
          (none_found (λ (f : Function). same_name f.name name) (with_given_ramps m).functions e stands.at (called_ramp g)
          stands.is) (same_name-itself name))
      on (Some k) e =
          let w = what_is_found (λ (f : Function). same_name f.name name) (with_given_ramps m).functions k e in
          let is = is_ramp k w.element w.passes (of_row m.functions ramps k w.element w.stands) in
          record {
            position = k;
            function = called_ramp g;
            is_named = e;
            stands = w.stands ∙ ap (λ (f : Function). Some f) (sym is);
            has_result = refl;
            has_params = map-append (λ (p : Param). p.ty) g.params _;
          }
