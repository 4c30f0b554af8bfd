-- What terminators and phis take doesn't differ, and no block is held at the end of a block, by what the module keeps.
use Rattle.std.proofs.Common.{◌≡◌, ◌⊎◌, inl, inr, ℕ, zero, suc, Bool, true, false, List, [], ◌∷◌, length, Option, refl, sym, ap, ◌∙◌, subst, arith, ◌&&◌, ◌||◌}
use Rattle.std.specs.Prelude.{◌≢◌, None, Some, is_some, slice_get}
use Rattle.pass_elide_edges.specs.Keeping.{HasEdge, KeepsAsking, KeepsShape, MeetsPlain, SameLoad, SameOperand, SetsKnown, TakesPlain, TakesSame}
use Rattle.pass_elide_proof.proofs.PlacingFacts.{quiet}
use Rattle.pass_elide_proof.specs.Edges.{IsAlike, IsHeldOn, IsPhiAlike, MadeAlike, MeetsAlike, NoneHeld, SameOperand as SameTaken, StaysHeld, TakesAlike, label_from, phis_at}
use Rattle.pass_elide_proof.specs.EdgesFreeing.{FreesAside, FreesFrame}
use Rattle.pass_elide_proof.specs.Elision.{Elision, Shape, differs_in, function_in, no_shape}
use Rattle.pass_elide_proof.specs.Match.{is_given_mode, sides, was_given}
use Rattle.pass_elide_proof.specs.Places.{instrs_of}
use Rattle.pass_elide_proof.specs.Placing.{IsQuiet}
use Rattle.pass_elide_proof.specs.Shapes.{AsksForFrame}
use Rattle.pass_elide_proof.proofs.pass_proofs.ir_laws.facts.Lists.{get_within}
use Rattle.pass_elide_proof.proofs.pass_proofs.ir_laws.facts.Truth.{either}
use Rattle.pass_elide_proof.specs.pass_proofs.flow_blocks.Reach.{IsReached as IsReachedBlock}
use Rattle.pass_elide_proof.specs.pass_proofs.ir_model.Names.{position_of}
use Rattle.pass_elide_proof.specs.pass_proofs.ir_model.declared.instr.Phi.{Phi}
use Rattle.pass_elide_proof.specs.pass_proofs.ir_model.declared.module.Function.{Function}
use Rattle.pass_elide_proof.specs.pass_proofs.ir_model.declared.operand.Operand.{Operand}
use Rattle.pass_elide_proof.specs.pass_proofs.run_laws.changed.Changed.{Each}
use Rattle.pass_elide_proof.specs.pass_proofs.run_source.declared.state.State.{State}
use Rattle.pass_elide_proof.specs.pass_proofs.run_step.Step.{incoming_from}
use Rattle.pass_elide_proof.specs.pass_proofs.run_step.Values.{Env}

-- ---- lists

pub each_both : {A : Type 0} (P Q R : A → Type 0) → ((x : A) → P x → Q x → R x) → (xs : List A) → Each P xs
    → Each Q xs → Each R xs
each_both P Q R h [] p q = tt
each_both P Q R h (x ∷ xs) p q = (h x p.0 q.0, each_both P Q R h xs p.1 q.1)

pub each_at : {A : Type 0} (P : A → Type 0) (xs : List A) → Each P xs → (k : ℕ) (x : A) → slice_get xs k ≡ Some x → P x
each_at P [] h k x is = absurd (cc)
each_at P (y ∷ xs) h zero x is = let same : y ≡ x = cc in subst P same h.0
each_at P (y ∷ xs) h (suc k) x is = each_at P xs h.1 k x is

-- ---- names

or_none : (a b : Bool) → (a || b) ≡ false → (a ≡ false) × (b ≡ false)
or_none true b h = absurd (cc)
or_none false b h = (refl, h)

module _ (x : Shape) (v : ℕ) where
  -- what doesn't differ in a given ramp isn't made where a frame is allocated
  pub unmade : (ramp given : Bool) → ramp ≡ true → differs_in x ramp given v ≡ false → x.made v ≡ false
  unmade true given is h =
      (or_none (x.need v) (x.made v)
      (or_none (x.need v || x.made v) (given && (x.freed v || (is_some (x.tested v) || x.passed v))) h).0).1
  unmade false given is h = let never : false ≡ true = is in absurd (cc)

  -- and what doesn't where a frame was given isn't loaded where one is freed
  pub unpassed : (ramp given : Bool) → given ≡ true → differs_in x ramp given v ≡ false → x.passed v ≡ false
  unpassed ramp true is h =
      (or_none (is_some (x.tested v)) (x.passed v)
      (or_none (x.freed v) (is_some (x.tested v) || x.passed v)
      (or_none (ramp && (x.need v || x.made v)) (x.freed v || (is_some (x.tested v) || x.passed v)) h).1).1).1
  unpassed ramp false is h = let never : false ≡ true = is in absurd (cc)

  pub quiet_name : (ramp given : Bool) → IsQuiet x v → differs_in x ramp given v ≡ false
  quiet_name ramp given q = quiet x ramp given v q.need (λ r. q.made) q.freed q.tested (λ r. q.passed)

  -- where no ramp was given its frame, what coro.alloc and an allocator give doesn't differ
  pub no_ramp : (ramp given : Bool) → ramp ≡ false → x.freed v ≡ false → x.tested v ≡ None → x.passed v ≡ false
      → differs_in x ramp given v ≡ false
  no_ramp true given is freed tested passed = let never : true ≡ false = is in absurd (cc)
  no_ramp false true is freed tested passed = λ j. freed j || (is_some (tested j) || passed j)
  no_ramp false false is freed tested passed = refl

  -- where no frame was given nothing does
  pub ungiven : (ramp given : Bool) → ramp ≡ false → given ≡ false → differs_in x ramp given v ≡ false
  ungiven true given is never = let not : true ≡ false = is in absurd (cc)
  ungiven false true is never = let not : true ≡ false = never in absurd (cc)
  ungiven false false is never = refl

pub quiet_none : (x : Shape) (ramp given : Bool) (v : ℕ) → x ≡ no_shape → differs_in x ramp given v ≡ false
quiet_none x ramp given v is =
    ap (λ (y : Shape). differs_in y ramp given v) is
    ∙ quiet no_shape ramp given v refl (λ r. refl) refl refl (λ r. refl)

-- ---- blocks

module _ (f : Function) (x : Shape) (k : AsksForFrame f x) where
  pub end_free : (block at : ℕ) → at ≡ length (instrs_of f block) → block ≢ k.allocates → block ≢ k.after
      → x.holds block at ≡ None
  end_free block at ends allocates after = on (either block k.begins)
    where
      on : (block ≡ k.begins) ⊎ (block ≡ k.begins → ⊥) → x.holds block at ≡ None
      on (inl same) =
          let within = get_within (instrs_of f k.begins) k.begin k.start k.is_start in
          let long : length (instrs_of f block) ≡ length (instrs_of f k.begins)
          = ap (λ (b : ℕ). length (instrs_of f b)) same in
          ap (λ (b : ℕ). x.holds b at) same ∙ k.free_behind at (omega (arith, within, long, ends))
      on (inr ne) = k.free_elsewhere block at allocates after ne

  pub start_free : (to : ℕ) → to ≢ k.after → to ≢ k.begins → x.holds to 0 ≡ None
  start_free to after begins = on (either to k.allocates)
    where
      on : (to ≡ k.allocates) ⊎ (to ≡ k.allocates → ⊥) → x.holds to 0 ≡ None
      on (inl same) = ap (λ (b : ℕ). x.holds b 0) same ∙ k.free_before 0 (omega arith)
      on (inr ne) = k.free_elsewhere to 0 ne after begins

pub none_held : (env : Env) (from : ℕ) (phis : List Phi) (a b : Option ℕ) → a ≡ None → b ≡ None
    → StaysHeld env from phis a b
none_held env from phis a b first second =
    subst (λ (p : Option ℕ × Option ℕ). StaysHeld env from phis p.0 p.1) (λ j. (sym first j, sym second j)) NoneHeld

-- ---- where an activation stands

-- a block that a ramp which was given its frame isn't in, nor any activation whose frame was given
pub record StandsPlain (f : Function) (x : Shape) (k : AsksForFrame f x) (block : ℕ) (ramp given : Bool) : Type 0 where
  pub allocates : ramp ≡ true → block ≢ k.allocates
  pub after : ramp ≡ true → block ≢ k.after
  pub beside : ramp ≡ true → block ≢ k.beside
  pub freed : given ≡ true → (q : FreesFrame f x) → FreesAside f x q.after q.beside
      → (block ≢ q.after) × (block ≢ q.beside)

module _ (f : Function) (x : Shape) (k : AsksForFrame f x) (asking : KeepsAsking f x k) where
  -- on an edge no block is held
  pub held_none : (block label at : ℕ) (env : Env) → at ≡ length (instrs_of f block) → HasEdge f block label
      → block ≢ k.allocates → block ≢ k.after → block ≢ k.beside
      → StaysHeld env (label_from f block) (phis_at f (position_of f label)) (x.holds block at)
      (x.holds (position_of f label) 0)
  held_none block label at env ends edge allocates after beside =
      none_held env (label_from f block) (phis_at f (position_of f label)) (x.holds block at)
      (x.holds (position_of f label) 0) (end_free f x k block at ends allocates after)
      (start_free f x k (position_of f label) (λ is. allocates (asking.into_after block label edge is))
      (λ is. never (asking.into_begins block label edge is)))
    where
      never : (block ≡ k.after) ⊎ (block ≡ k.beside) → ⊥
      never (inl is) = after is
      never (inr is) = beside is

-- ---- where both runs stand beside each other

-- in a function whose calls give no frame
module _ (e : Elision) (s u : State) (none : e.shape s.top.func ≡ no_shape) where
  pub none_alike : (o : Operand) → IsAlike e s u o
  none_alike o v is =
      quiet_none (e.shape s.top.func) (is_given_mode u.top.mode) (was_given (sides s u) u.top) v none

  one_phi : (from : ℕ) (p : Phi) → SetsKnown (function_in e s.top.func) (e.shape s.top.func) p
      → IsPhiAlike e s u from p
  one_phi from p sets =
      record { known = sets.known; answers = sets.answers; takes = λ same. none_alike (incoming_from p.incoming from) }

  each_phi : (from : ℕ) (ps : List Phi) → Each (SetsKnown (function_in e s.top.func) (e.shape s.top.func)) ps
      → Each (IsPhiAlike e s u from) ps
  each_phi from [] sets = tt
  each_phi from (p ∷ ps) sets = (one_phi from p sets.0, each_phi from ps sets.1)

  pub none_phis : (from to : ℕ) → Each (SetsKnown (function_in e s.top.func) (e.shape s.top.func))
      (phis_at (function_in e s.top.func) to) → Each (IsPhiAlike e s u from) (phis_at (function_in e s.top.func) to)
  none_phis from to sets = each_phi from (phis_at (function_in e s.top.func) to) sets

  pub holds_none : (to : ℕ) → IsHeldOn e s to
  holds_none to =
      none_held s.top.values (label_from (function_in e s.top.func) s.top.block)
      (phis_at (function_in e s.top.func) to) ((e.shape s.top.func).holds s.top.block s.top.at)
      ((e.shape s.top.func).holds to 0) (ap (λ (y : Shape). y.holds s.top.block s.top.at) none)
      (ap (λ (y : Shape). y.holds to 0) none)

-- in a coroutine whose calls may give its frame
module _ (e : Elision) (s u : State) (k : AsksForFrame (function_in e s.top.func) (e.shape s.top.func))
    (ends : KeepsShape (function_in e s.top.func) (e.shape s.top.func) k)
    (stands : StandsPlain (function_in e s.top.func) (e.shape s.top.func) k s.top.block (is_given_mode u.top.mode)
    (was_given (sides s u) u.top))
    (reached : IsReachedBlock (function_in e s.top.func) (0 ∷ []) [] s.top.block) where
  abbrev f : Function
  f = function_in e s.top.func

  abbrev x : Shape
  x = e.shape s.top.func

  abbrev ramp : Bool
  ramp = is_given_mode u.top.mode

  abbrev given : Bool
  given = was_given (sides s u) u.top

  abbrev Takes : Phi → Type 0
  Takes p =
      (v : ℕ) → incoming_from p.incoming (label_from f s.top.block) ≡ Operand.Local v
      → TakesPlain f x k s.top.block p v

  phi_alike : (p : Phi) → SetsKnown f x p → Takes p → IsPhiAlike e s u (label_from f s.top.block) p
  phi_alike p sets takes = record {
    known = sets.known;
    answers = sets.answers;
    takes = λ same v is.
        let h = takes v is in
        quiet x ramp given v h.need
        (λ r. h.made (stands.after r) (stands.beside r) (unmade x p.result ramp given r same)) h.freed h.tested
        (λ g. h.passed (stands.freed g) (unpassed x p.result ramp given g same));
  }

  pub shape_phis : (label : ℕ) → HasEdge (function_in e s.top.func) s.top.block label
      → Each (SetsKnown (function_in e s.top.func) (e.shape s.top.func))
      (phis_at (function_in e s.top.func) (position_of (function_in e s.top.func) label))
      → Each (IsPhiAlike e s u (label_from (function_in e s.top.func) s.top.block))
      (phis_at (function_in e s.top.func) (position_of (function_in e s.top.func) label))
  shape_phis label edge sets =
      each_both (SetsKnown f x) Takes (IsPhiAlike e s u (label_from f s.top.block)) phi_alike
      (phis_at f (position_of f label)) sets (ends.takes s.top.block label reached edge)

  pub holds_still : (label : ℕ) → HasEdge (function_in e s.top.func) s.top.block label
      → s.top.at ≡ length (instrs_of (function_in e s.top.func) s.top.block) → is_given_mode u.top.mode ≡ true
      → IsHeldOn e s (position_of (function_in e s.top.func) label)
  holds_still label edge last r =
      held_none f x k ends.asking s.top.block label s.top.at s.top.values last edge (stands.allocates r)
      (stands.after r) (stands.beside r)

-- ---- where both runs stand in blocks of their own

module _ (e : Elision) (s t : State) (differs : ℕ → Bool)
    (apart : (v : ℕ) → differs_in (e.shape s.top.func) (is_given_mode t.top.mode) (was_given (sides s t) t.top) v
    ≡ false → differs v ≡ false)
    (last : s.top.at ≡ length (instrs_of (function_in e s.top.func) s.top.block)) where
  abbrev f' : Function
  f' = function_in e s.top.func

  abbrev x' : Shape
  x' = e.shape s.top.func

  same_taken : (a b : Operand) → TakesSame f' x' s.top.block t.top.block a b → TakesAlike e s t a b
  same_taken _ _ (SameOperand o q) =
      SameTaken o (λ v is. quiet_name x' v (is_given_mode t.top.mode) (was_given (sides s t) t.top) (q v is))
  same_taken _ _ (SameLoad k u v i j here there first second) =
      let within = get_within (instrs_of f' s.top.block) k i here in
      MadeAlike k u v i j (omega (arith, within, last)) here there first second

  meets_alike : (p : Phi) → SetsKnown f' x' p → MeetsPlain f' x' s.top.block t.top.block differs p
      → MeetsAlike e s t (label_from f' s.top.block) (label_from f' t.top.block) p
  meets_alike p sets meets = record {
    answers = sets.answers;
    takes = λ same.
        same_taken (incoming_from p.incoming (label_from f' s.top.block))
        (incoming_from p.incoming (label_from f' t.top.block)) (meets (apart p.result same));
  }

  pub meets_phis : (to : ℕ) → Each (SetsKnown (function_in e s.top.func) (e.shape s.top.func))
      (phis_at (function_in e s.top.func) to)
      → Each (MeetsPlain (function_in e s.top.func) (e.shape s.top.func) s.top.block t.top.block differs)
      (phis_at (function_in e s.top.func) to)
      → Each (MeetsAlike e s t (label_from (function_in e s.top.func) s.top.block)
      (label_from (function_in e s.top.func) t.top.block)) (phis_at (function_in e s.top.func) to)
  meets_phis to sets meets =
      each_both (SetsKnown f' x') (MeetsPlain f' x' s.top.block t.top.block differs)
      (MeetsAlike e s t (label_from f' s.top.block) (label_from f' t.top.block)) meets_alike (phis_at f' to) sets
      meets
