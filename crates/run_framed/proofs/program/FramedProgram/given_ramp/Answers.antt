use Rattle.std.proofs.Common.{ℕ, ◌∙◌, ap, sym, Option}
use Rattle.std.specs.Prelude.{option_and_then, option_map, slice_get}
use Rattle.run_framed.proofs.GivenRamps.{ramp-found}
use Rattle.run_framed.proofs.program.FramedProgram.given_ramp.Goals as goal
use Rattle.run_framed.specs.declared.ramps.GivenRamp.{GivenRamp}

pub returns-in-None : goal.returns-in-None
returns-in-None c =
    let p = c.args.self.now in
    ap (λ (o : Option ℕ). option_map (λ (x : GivenRamp). x.func) (option_and_then (slice_get p.ramps) o)) (sym c.in-None.is)
    ∙ ramp-found p.given.program.module c.args.name.now p.ramps c.find.result p.ramps_found (c.find.ensures ∙ p.names_found.first c.args.name.now)

pub returns-in-None-get : goal.returns-in-None-get
returns-in-None-get c =
    let p = c.args.self.now in
    ap (λ (o : Option GivenRamp). option_map (λ (x : GivenRamp). x.func) o) (sym c.in-None-get.ensures)
    ∙ ap (λ (o : Option ℕ). option_map (λ (x : GivenRamp). x.func) (option_and_then (slice_get p.ramps) o)) (sym c.in-Some.is)
    ∙ ramp-found p.given.program.module c.args.name.now p.ramps c.find.result p.ramps_found (c.find.ensures ∙ p.names_found.first c.args.name.now)

pub returns-in-Some-get : goal.returns-in-Some-get
returns-in-Some-get c =
    let p = c.args.self.now in
    ap (λ (o : Option GivenRamp). option_map (λ (x : GivenRamp). x.func) o) (sym c.in-Some-get.ensures)
    ∙ ap (λ (o : Option ℕ). option_map (λ (x : GivenRamp). x.func) (option_and_then (slice_get p.ramps) o)) (sym c.in-Some.is)
    ∙ ramp-found p.given.program.module c.args.name.now p.ramps c.find.result p.ramps_found (c.find.ensures ∙ p.names_found.first c.args.name.now)
