-- An instance that is resumed with the frame address alone.
use Rattle.std.proofs.Common.{◌≡◌, ℕ, ◌+◌, List, ◌∷◌, refl, ap, sym, ◌∙◌, Option, Some, None}
use Rattle.std.specs.Prelude.{slice_get, slice_set}
use Rattle.run_source.specs.Source.{push}
use Rattle.run_source.specs.SourceEffects.{woken}
use Rattle.run_source.specs.State.{frame_address_of, with_status}
use Rattle.run_source.specs.declared.resuming.Sleeping.{Sleeping}
use Rattle.run_source.specs.declared.state.Activation.{Activation}
use Rattle.run_source.specs.declared.state.Instance.{Instance}
use Rattle.run_source.specs.declared.state.State.{State}
use Rattle.run_source.specs.declared.state.Status.{Status}
use Rattle.run_framed.specs.Framed.{FramedGiven, alloca_from, continue_framed, enter_after, reentry_values}
use Rattle.run_framed.specs.FramedEffects.{bare}
use Rattle.ir_model.specs.Names.{function_at}
use Rattle.ir_paths.specs.declared.point.Point.{Point}
use Rattle.run_step.specs.Values.{Env}
use Rattle.run_source.specs.run_source_tables.Given.{Given}

-- the instances may be set before or behind
set-behind : (g : FramedGiven) (s : State) (xs : List Instance) (from label : ℕ) (o : Option Point) → record (enter_after g s from label o) { instances = xs } ≡ enter_after g (record s { instances = xs }) from label o
set-behind g s xs from label (Some p) = refl
set-behind g s xs from label None = refl

same-instances : (g : FramedGiven) (s : State) (from label : ℕ) (o : Option Point) → (enter_after g s from label o).instances ≡ s.instances
same-instances g s from label (Some p) = refl
same-instances g s from label None = refl

abbrev pub Runs : ℕ → List Instance → List Instance → Type 0
Runs i old new = (z : Instance) → slice_get old i ≡ Some z → new ≡ slice_set old i (record z { status = Status.Running })

-- the state behind the suspend, by the position of the coroutine
abbrev gone : Given → State → Sleeping → Instance → ℕ → ℕ → State
gone g s y x label func =
    let f = function_at g.code func in
    enter_after (bare g) (push (with_status s y.instance x Status.Running) (record (woken y (reentry_values f (frame_address_of x))) { func = func })) y.suspend.block label (alloca_from f 0)

pub gone-on : (g : Given) (s t u : State) (y : Sleeping) (x : Instance) (values env : Env) (label : ℕ) (o : Option Point) (instances : List Instance) → slice_get s.instances y.instance ≡ Some x → x.coroutine ≡ y.coroutine → env ≡ reentry_values (function_at g.code y.coroutine) (frame_address_of x) → t ≡ push s (woken y env) → o ≡ alloca_from (function_at g.code y.coroutine) 0 → u ≡ enter_after (bare g) t y.suspend.block label o → Runs y.instance u.instances instances → record u { instances = instances } ≡ continue_framed (bare g) s y.instance x y.suspend values label
gone-on g s t u y x values env label o instances got co es ts os us runs =
    let from = y.suspend.block in
    let f = function_at g.code y.coroutine in
    let all = slice_set s.instances y.instance (record x { status = Status.Running }) in
    let same : u.instances ≡ s.instances = ap (λ (v : State). v.instances) us ∙ same-instances (bare g) t from label o ∙ ap (λ (v : State). v.instances) ts in
    let is : instances ≡ all = runs x (ap (λ (l : List Instance). slice_get l y.instance) same ∙ got) ∙ ap (λ (l : List Instance). slice_set l y.instance (record x { status = Status.Running })) same in
    ap (λ (v : State). record v { instances = instances }) us
    ∙ set-behind (bare g) t instances from label o
    ∙ ap (λ (l : List Instance). enter_after (bare g) (record t { instances = l }) from label o) is
    ∙ ap (λ (v : State). enter_after (bare g) (record v { instances = all }) from label o) ts
    ∙ ap (λ (e : Env). enter_after (bare g) (push (with_status s y.instance x Status.Running) (woken y e)) from label o) es
    ∙ ap (λ (p : Option Point). enter_after (bare g) (push (with_status s y.instance x Status.Running) (woken y (reentry_values f (frame_address_of x)))) from label p) os
    ∙ ap (gone g s y x label) (sym co)

pub stepped-back : (s t new : State) (a : Activation) (at : ℕ) → t ≡ push s a → at ≡ s.top.at → ((under : Activation) (rest : List Activation) → t.below ≡ under ∷ rest → new ≡ record t { top = record under { at = at }; below = rest }) → new ≡ s
stepped-back s t new a at e here back =
    back (record s.top { at = s.top.at + 1 }) s.below (ap (λ (x : State). x.below) e)
    ∙ ap (λ (x : State). record x { top = record s.top { at = at }; below = s.below }) e
    ∙ ap (λ k. record s { top = record s.top { at = k } }) here
