-- Activations stay outside the blocks that allocate and free given frames.
use Rattle.std.proofs.Common.{◌≡◌, ◌⊎◌, ◌∙◌, ◌∷◌, [], ap, Bool, false, inl, inr, List, length, Option, refl, subst, sym, true, ℕ, if◌then◌else◌}
use Rattle.std.specs.Option.{option_map_or}
use Rattle.std.specs.Prelude.{None, Some, slice_get}
use Rattle.pass_elide_kept.proofs.Fronted.{IsFronted}
use Rattle.pass_elide_kept.proofs.Moves.{MovesBy}
use Rattle.pass_elide_kept.specs.Modules.{KeepsHandlesAndEnds, LeadsOut}
use Rattle.pass_elide_proof.proofs.CallersEdges.{there}
use Rattle.pass_elide_proof.proofs.CallersOnward.{given_as}
use Rattle.pass_elide_proof.proofs.EdgeEntered.{term_end}
use Rattle.pass_elide_proof.proofs.Facts.{some_none}
use Rattle.pass_elide_proof.specs.Callers.{WasBefore}
use Rattle.pass_elide_proof.specs.Elision.{Elision, Shape, function_in, no_shape}
use Rattle.pass_elide_proof.specs.Match.{instance_in, is_given_mode}
use Rattle.pass_elide_proof.specs.Places.{instrs_of}
use Rattle.pass_elide_proof.specs.Placing.{HasShape, KeepsPlaces}
use Rattle.pass_elide_proof.specs.PlacingStates.{HavePassedBy, PassesBy}
use Rattle.pass_elide_proof.specs.pass_proofs.flow_solver.Paths.{IsListed}
use Rattle.pass_elide_proof.specs.pass_proofs.ir_model.declared.instr.Instr.{Instr}
use Rattle.pass_elide_proof.specs.pass_proofs.ir_model.declared.instr.Terminator.{Terminator}
use Rattle.pass_elide_proof.specs.pass_proofs.ir_model.declared.operand.Operand.{Operand}
use Rattle.pass_elide_proof.specs.pass_proofs.ir_paths.Paths.{targets}
use Rattle.pass_elide_proof.specs.pass_proofs.run_framed.Framed.{is_given}
use Rattle.pass_elide_proof.specs.pass_proofs.run_laws.changed.Changed.{Each}
use Rattle.pass_elide_proof.specs.pass_proofs.run_source.declared.state.Activation.{Activation}
use Rattle.pass_elide_proof.specs.pass_proofs.run_source.declared.state.Instance.{Instance}
use Rattle.pass_elide_proof.specs.pass_proofs.run_source.declared.state.State.{State}
use Rattle.pass_elide_proof.specs.pass_proofs.run_step.Step.{AtTerm, fetch}

-- ---- which frames were given

-- an instance whose frame was given had it before
abbrev pub IsAgedAt : State → State → ℕ → Type 0
IsAgedAt t u number =
    (y : Instance) → slice_get u.instances number ≡ Some y → is_given u.world.memory y ≡ true
    → (x : Instance) × (slice_get t.instances number ≡ Some x) × (is_given t.world.memory x ≡ true)

pub aged_by : (e : Elision) (t u : State)
    → ((number : ℕ) (y : Instance) → slice_get u.instances number ≡ Some y → WasBefore t.instances number y)
    → ((number : ℕ) (y : Instance) → slice_get t.instances number ≡ Some y → is_given u.world.memory y ≡ true
    → is_given t.world.memory y ≡ true)
    → (number : ℕ) → IsAgedAt t u number
aged_by e t u was frames number y there given =
    let old = was number y there in (
      old.before,
      old.there,
      frames number old.before old.there
          (sym (given_as e old.before y number old.coroutine old.block old.start u.world.memory) ∙ given),
    )

module _ (e : Elision) (t u : State) where
  pub given_then : (b : Bool) (o : Option ℕ) → ((n : ℕ) → o ≡ Some n → IsAgedAt t u n)
      → (if b then true else option_map_or (is_given u.world.memory) (instance_in u.instances o) false) ≡ true
      → (if b then true else option_map_or (is_given t.world.memory) (instance_in t.instances o) false) ≡ true
  given_then true o aged h = refl
  given_then false None aged h = h
  given_then false (Some n) aged h = by (slice_get u.instances n) refl h
    where
      by : (q : Option Instance) → slice_get u.instances n ≡ q
          → option_map_or (is_given u.world.memory) q false ≡ true
          → option_map_or (is_given t.world.memory) (slice_get t.instances n) false ≡ true
      by None is h = absurd (cc)
      by (Some y) is h =
          let x = aged n refl y is h in
          ap (λ (q : Option Instance). option_map_or (is_given t.world.memory) q false) x.1 ∙ x.2

  -- an activation in the same block passes by still
  pub passes : (c d : Activation) → ((n : ℕ) → c.instance ≡ Some n → IsAgedAt t u n) → d.func ≡ c.func
      → d.block ≡ c.block → is_given_mode d.mode ≡ is_given_mode c.mode → d.instance ≡ c.instance → PassesBy e t c
      → PassesBy e u d
  passes c d aged func block mode instance h = record {
    waits = λ given. (λ j. (e.shape (func j)).waits (block j)) ∙ h.waits (sym mode ∙ given);
    frees = λ given.
        (λ j. (e.shape (func j)).frees (block j))
        ∙ h.frees (given_then (is_given_mode c.mode) c.instance aged
        ((λ j. if sym mode j then true
        else option_map_or (is_given u.world.memory) (instance_in u.instances (sym instance j)) false) ∙ given));
  }

  pub all_pass : (rows : List Activation)
      → Each (λ (c : Activation). (n : ℕ) → c.instance ≡ Some n → IsAgedAt t u n) rows
      → Each (PassesBy e t) rows → Each (PassesBy e u) rows
  all_pass [] aged h = tt
  all_pass (c ∷ rows) aged h = (passes c c aged.0 refl refl refl refl h.0, all_pass rows aged.1 h.1)

  pub all_aged : (rows : List Activation) → ((number : ℕ) → IsAgedAt t u number)
      → Each (λ (c : Activation). (n : ℕ) → c.instance ≡ Some n → IsAgedAt t u n) rows
  all_aged [] aged = tt
  all_aged (c ∷ rows) aged = (λ n is. aged n, all_aged rows aged)

-- ---- where the topmost activation goes on in its block

pub moves_pass : (e : Elision) (t u : State) (aged : (number : ℕ) → IsAgedAt t u number) → u.below ≡ t.below
    → PassesBy e u u.top → HavePassedBy e t → HavePassedBy e u
moves_pass e t u aged below top h = (
  top,
  subst (λ (rows : List Activation). Each (PassesBy e u) rows) (sym below)
      (all_pass e t u t.below (all_aged e t u t.below aged) h.1),
)

pub moved_pass : (e : Elision) (t u : State) (i : Instr) → MovesBy e t u i → HavePassedBy e t → HavePassedBy e u
moved_pass e t u i m h =
    let aged = aged_by e t u m.instances m.frames.given in
    moves_pass e t u aged m.below
    (passes e t u t.top u.top (λ n is. aged n) m.func m.block (ap is_given_mode m.mode) m.instance h.0) h

pub fronts_pass : (e : Elision) (t u : State) → IsFronted t u → HavePassedBy e t → HavePassedBy e u
fronts_pass e t u k h =
    let aged : (number : ℕ) → IsAgedAt t u number
    = λ number y there given.
    let old = ap (λ (xs : List Instance). slice_get xs number) (sym k.instances) ∙ there in
    (y, old, sym (k.given number y old) ∙ given) in
    moves_pass e t u aged k.below
    (passes e t u t.top u.top (λ n is. aged n) k.func k.block (ap is_given_mode k.mode) k.instance h.0) h

-- ---- no such block is the entry block

module _ (e : Elision) (places : KeepsPlaces e) (keeps : KeepsHandlesAndEnds e) where
  branch_leads : (func block need one other : ℕ)
      → fetch (function_in e func) block (length (instrs_of (function_in e func) block))
      ≡ AtTerm (Terminator.Branch (Operand.Local need) one other) → (label : ℕ)
      → IsListed label (one ∷ other ∷ []) → LeadsOut (function_in e func) block label
  branch_leads func block need one other there label among =
      let end = term_end (function_in e func) block (length (instrs_of (function_in e func) block))
      (Terminator.Branch (Operand.Local need) one other) there in
      record {
        block = end.own;
        there = end.there;
        among = subst (λ (x : Terminator). IsListed label (targets x)) (sym end.is) among;
      }

  pub entry_waits : (func : ℕ) → (e.shape func).waits 0 ≡ None
  entry_waits func = on ((e.shape func).waits 0) refl (places.shapes func)
    where
      on : (o : Option ℕ) → (e.shape func).waits 0 ≡ o → (e.shape func ≡ no_shape) ⊎ HasShape e func
          → (e.shape func).waits 0 ≡ None
      on None is shape = is
      on (Some other) is (inl none) =
          absurd (some_none ((e.shape func).waits 0) other is (ap (λ (y : Shape). y.waits 0) none))
      on (Some other) is (inr k) =
          absurd (keeps.entries func k.asks.asks k.asks.one
          (branch_leads func k.asks.asks k.asks.need k.asks.one k.asks.other k.asks.branch k.asks.one (inl refl))
          (k.asks.to_allocator ∙ sym (k.waits 0 other is)))

  pub entry_frees : (func : ℕ) → (e.shape func).frees 0 ≡ None
  entry_frees func = on ((e.shape func).frees 0) refl
    where
      on : (o : Option ℕ) → (e.shape func).frees 0 ≡ o → (e.shape func).frees 0 ≡ None
      on None is = is
      on (Some other) is =
          let p = keeps.frees func 0 other is in
          absurd (keeps.entries func p.frees.tests (if p.frees.is_eq then p.frees.other else p.frees.one)
          (branch_leads func p.frees.tests p.frees.tested p.frees.one p.frees.other p.frees.branch
          (if p.frees.is_eq then p.frees.other else p.frees.one)
          (among p.frees.is_eq p.frees.one p.frees.other))
          (p.frees.to_free ∙ p.is))
        where
          among : (q : Bool) (one other : ℕ) → IsListed (if q then other else one) (one ∷ other ∷ [])
          among true one other = inr (inl refl)
          among false one other = inl refl
