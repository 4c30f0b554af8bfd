-- A woken instance that falls asleep again.
use Rattle.std.proofs.Common.{◌≡◌, ℕ, ◌+◌, List, [], ◌∷◌, refl, ap, sym, subst, ◌∙◌, Option, Some}
use Rattle.std.specs.Prelude.{slice_get, slice_set}
use Rattle.ir_paths.specs.declared.point.Point.{Point}
use Rattle.run_source_tables.specs.run_step.Values.{Env}
use Rattle.run_source.specs.Source.{push}
use Rattle.run_source.specs.declared.state.Activation.{Activation}
use Rattle.run_source.specs.declared.state.Instance.{Instance}
use Rattle.run_source.specs.declared.state.State.{State}
use Rattle.run_source.specs.declared.state.Status.{Status}
use Rattle.run_source.proofs.Settings.{get-set, set-same, set-twice}

abbrev pub woken_in : State → Activation → ℕ → Instance → Env → State
woken_in s a i x values = record (push s a) { instances = slice_set s.instances i (record x { status = Status.Running }); top = record a { values = values } }

abbrev pub FallsAsleep : ℕ → Point → ℕ → State → State → Type 0
FallsAsleep i suspend at t new = (y : Instance) (under : Activation) (rest : List Activation) → slice_get t.instances i ≡ Some y → t.below ≡ under ∷ rest → new ≡ record t { instances = slice_set t.instances i (record y { status = Status.Suspended suspend t.top.values }); top = record under { at = at }; below = rest }

asleep : (s new : State) (a : Activation) (i at : ℕ) (x : Instance) (suspend : Point) (values : Env) → slice_get s.instances i ≡ Some x → x.status ≡ Status.Suspended suspend values → at ≡ s.top.at → FallsAsleep i suspend at (woken_in s a i x values) new → new ≡ s
asleep s new a i at x suspend values got status here falls =
    let y : Instance = record x { status = Status.Running } in
    let z : Instance = record x { status = Status.Suspended suspend values } in
    let same : z ≡ x = ap (λ (t : Status). record x { status = t }) (sym status) in
    falls y (record s.top { at = s.top.at + 1 }) s.below (get-set s.instances i x y got) refl
    ∙ ap (λ n. record s { instances = slice_set (slice_set s.instances i y) i z; top = record s.top { at = n } }) here
    ∙ ap (λ (l : List Instance). record s { instances = l }) (set-twice s.instances i y z ∙ ap (λ (u : Instance). slice_set s.instances i u) same ∙ set-same s.instances i x got)

pub asleep-again : (s t new : State) (a : Activation) (i at : ℕ) (x : Instance) (suspend : Point) (values : Env) → slice_get s.instances i ≡ Some x → x.status ≡ Status.Suspended suspend values → at ≡ s.top.at → t ≡ woken_in s a i x values → FallsAsleep i suspend at t new → new ≡ s
asleep-again s t new a i at x suspend values got status here is falls =
    asleep s new a i at x suspend values got status here (subst (λ (u : State). FallsAsleep i suspend at u new) is falls)
