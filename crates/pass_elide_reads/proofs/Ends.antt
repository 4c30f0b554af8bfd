-- What ends the blocks of a coroutine that has a form is as known ends ask.
use Rattle.std.proofs.Common.{◌≡◌, ◌≢◌, ◌⊎◌, ◌∙◌, ◌<◌, ◌^◌, inl, inr, ⊎_elim, ℕ, false, List, [], ◌∷◌, None, Some, ap, length, refl, subst, sym}
use Rattle.std.specs.Prelude.{if◌then◌else◌, ◌==◌}
use Rattle.pass_elide_edges.specs.Keeping.{Asked, FreesThere, HasEdge, KeepsAsking, KeepsFreeing, KeepsShape, LooksAt, MeetsBehind, MeetsPlain, MeetsThere, Plain, ShapesEnds, TakesBlock, TakesPlain, Tested}
use Rattle.pass_elide_edges.proofs.pass_elide_proof.pass_proofs.ir_laws.facts.Truth.{equal_numbers}
use Rattle.pass_elide_edges.proofs.pass_elide_proof.pass_proofs.ir_laws.paths.woven_rules.Unbroken.{each_listed}
use Rattle.pass_elide_reads.proofs.Looks.{looks_so, takes_so}
use Rattle.pass_elide_reads.specs.Uses.{EndsPlain, LooksAsked, LooksQuiet, LooksSo, LooksTested, OfAfter, OfAllocates, OfAsks, OfBeside, OfFreed, OfFrees, OfPassed, OfTests, UsesAlone}
use Rattle.pass_elide_ready.proofs.Apart.{IsBehind, after_frees_none, aside_is, allocates_aside_none, allocates_frees_none}
use Rattle.pass_elide_ready.proofs.Asked.{jumps_alike}
use Rattle.pass_elide_ready.proofs.FreedForm.{chosen_edge, first_edge, frees_aside, frees_frame, jump_edge, other_edge, second_edge}
use Rattle.pass_elide_ready.proofs.Listed.{found, tests_are}
use Rattle.pass_elide_ready.proofs.Modules.{all_rules}
use Rattle.pass_elide_ready.proofs.Shaped.{has_shape}
use Rattle.pass_elide_ready.specs.Form.{Asking, AsksSo, Freeing, IsFormed, MeetsSo, shape_by}
use Rattle.pass_elide_ready.specs.Ruled.{IsRuled}
use Rattle.pass_elide_ready.specs.pass_elide_proof.Edges.{chosen_by, label_from, phis_at}
use Rattle.pass_elide_ready.specs.pass_elide_proof.EdgesFreeing.{FreesAside, FreesFrame}
use Rattle.pass_elide_ready.specs.pass_elide_proof.Elision.{Elision, Shape, function_in}
use Rattle.pass_elide_ready.specs.pass_elide_proof.Match.{frame_size}
use Rattle.pass_elide_ready.specs.pass_elide_proof.Places.{instrs_of}
use Rattle.pass_elide_ready.specs.pass_elide_proof.Placing.{IsQuiet}
use Rattle.pass_elide_ready.specs.pass_elide_proof.Shapes.{AsksForFrame}
use Rattle.pass_elide_ready.specs.pass_elide_proof.pass_proofs.flow_blocks.Reach.{IsReached as IsReachedBlock}
use Rattle.pass_elide_ready.specs.pass_elide_proof.pass_proofs.flow_solver.Paths.{IsListed}
use Rattle.pass_elide_ready.specs.pass_elide_proof.pass_proofs.ir_model.Names.{position_of}
use Rattle.pass_elide_ready.specs.pass_elide_proof.pass_proofs.ir_model.declared.instr.Phi.{Phi}
use Rattle.pass_elide_ready.specs.pass_elide_proof.pass_proofs.ir_model.declared.instr.Terminator.{Terminator}
use Rattle.pass_elide_ready.specs.pass_elide_proof.pass_proofs.ir_model.declared.module.Function.{Function}
use Rattle.pass_elide_ready.specs.pass_elide_proof.pass_proofs.ir_model.declared.operand.Operand.{Operand}
use Rattle.pass_elide_ready.specs.pass_elide_proof.pass_proofs.rule_laws.rules.function_rules.Kept.{KeepsFunctionRules}
use Rattle.pass_elide_ready.specs.pass_elide_proof.pass_proofs.run_laws.changed.Changed.{Each}
use Rattle.pass_elide_ready.specs.pass_elide_proof.pass_proofs.run_step.Step.{AtTerm, fetch, incoming_from}
use Rattle.pass_split_proof.proofs.ready.Entering.{coroutine_there}

module _ (e : Elision) (ruled : IsRuled e.code) (func : ℕ) (w : IsFormed e func)
    (small : frame_size e func < 2 ^ 32) (uses : UsesAlone (function_in e func) w.asking w.freeing)
    (ends : EndsPlain (function_in e func) w.asking w.freeing) where
  abbrev f : Function
  f = function_in e func

  abbrev a : Asking
  a = w.asking

  abbrev qs : List Freeing
  qs = w.freeing

  abbrev s : AsksSo f a
  s = w.form.asking

  abbrev x : Shape
  x = e.shape func

  abbrev rules : KeepsFunctionRules e.code func f
  rules = all_rules e.code ruled func f (coroutine_there e.code func w.form.coroutine)

  abbrev k : AsksForFrame f x
  k = (has_shape e ruled func w small).asks

  -- what is said of the form's shape is said of the function's
  as_shape : (P : Shape → Type 0) → P (shape_by f a qs) → P x
  as_shape P h = subst P (sym w.shape) h

  -- ---- where the frame is asked for

  block_taken : TakesBlock f x k
  block_taken = record {
    position = s.position;
    phi = s.phi;
    there = s.is_phi;
    sets = s.sets;
    takes = s.takes_block;
    once = λ j p there sets. ends.once j s.position p s.phi there s.is_phi sets s.sets;
  }

  asking : KeepsAsking f x k
  asking = record {
    stays_asks = ends.stays a.asks a.one OfAsks (first_edge f a.asks a.one a.other (Operand.Local a.need) s.branch);
    stays_passes = ends.stays a.asks a.other OfAsks
        (second_edge f a.asks a.one a.other (Operand.Local a.need) s.branch);
    stays_jumps = ends.stays a.allocates s.jumps.label OfAllocates (jump_edge f a.allocates a.after s.jumps);
    stays_joins = ends.stays a.after s.joins.label OfAfter (jump_edge f a.after a.begins s.joins);
    stays_meets = ends.stays a.beside s.meets.label OfBeside (jump_edge f a.beside a.begins s.meets);
    phis = λ path. as_shape (λ y. Each (MeetsPlain f y a.after a.beside y.made) (phis_at f a.begins)) (ends.asked path);
    block = block_taken;
    into_after = s.into_after;
    into_begins = s.into_begins;
    alone = allocates_aside_none e.code func f rules a qs w.form x w.shape;
    unfreed = allocates_frees_none e.code func f rules a qs w.form x w.shape;
    unfreed_behind = after_frees_none e.code func f rules a qs w.form x w.shape;
  }

  -- ---- where it is freed

  module _ (q : Freeing) (l : IsListed q qs) where
    abbrev frame : FreesFrame f x
    frame = frees_frame e.code func f rules a qs w.form x w.shape q l

    behind : (m : MeetsSo f q) → MeetsBehind f x frame
    behind m =
        let aside : FreesAside f x q.after q.beside
        = frees_aside e.code func f rules a qs w.form x w.shape q l m in
        let same : m.ends ≡ aside.ends
        = jumps_alike f a qs s x w.shape q.after q.after m.ends aside.ends refl m.joins aside.joins in
        record {
          aside = aside;
          stays_joins = ends.stays q.after aside.joins.label (OfFreed q l m) (jump_edge f q.after aside.ends aside.joins);
          stays_meets = ends.stays q.beside aside.meets.label (OfPassed q l m)
              (jump_edge f q.beside aside.ends aside.meets);
          phis = λ path.
              subst (λ (to : ℕ). Each (MeetsPlain f x q.after q.beside x.passed) (phis_at f to)) same
              (as_shape (λ y. Each (MeetsPlain f y q.after q.beside y.passed) (phis_at f m.ends))
              (ends.freed q l m path));
        }

    freeing : KeepsFreeing f x frame
    freeing = record {
      bare = (w.form.freeing q l).bare;
      bare_after = uses.bare q l;
      bare_beside = uses.bare_beside q l;
      stays_tests = ends.stays q.tests (if q.is_eq then q.other else q.one) (OfTests q l)
          (chosen_edge f q.tests q.one q.other (Operand.Local q.tested) q.is_eq (w.form.freeing q l).branch);
      stays_passes = ends.stays q.tests (if q.is_eq then q.one else q.other) (OfTests q l)
          (other_edge f q.tests q.one q.other (Operand.Local q.tested) q.is_eq (w.form.freeing q l).branch);
      stays_jumps = ends.stays q.frees (w.form.freeing q l).jumps.label (OfFrees q l)
          (jump_edge f q.frees q.after (w.form.freeing q l).jumps);
      ways = ⊎_elim (λ same. inl same) (λ m. inr (behind m)) (w.form.freeing q l).ways;
    }

  frees : (block tests : ℕ) → x.frees block ≡ Some tests → FreesThere f x block
  frees block tests is =
      let y = found (λ (d : Freeing). d.frees == block) (λ (d : Freeing). d.tests) qs tests
      (sym (tests_are qs block) ∙ sym (ap (λ (z : Shape). z.frees block) w.shape) ∙ is) in
      record {
        frame = frame y.element y.listed;
        keeps = freeing y.element y.listed;
        frees = equal_numbers y.element.frees block y.passes;
      }

  asides : (block other : ℕ) → x.aside block ≡ Some other → (block ≡ k.after) ⊎ MeetsThere f x block
  asides block other is = ⊎_elim
      (λ (h : (block ≡ a.after) × (other ≡ a.beside)). inl h.0)
      (λ (y : IsBehind f qs block other). inr (record {
        frame = frame y.element y.listed;
        keeps = freeing y.element y.listed;
        meets = behind y.element y.listed y.meets;
        after = y.after_is;
      }))
      (aside_is e.code func f rules a qs w.form x w.shape block other is)

  -- ---- names

  looks : (block v : ℕ) (term : Terminator) → IsReachedBlock f (0 ∷ []) [] block
      → fetch f block (length (instrs_of f block)) ≡ AtTerm term → chosen_by term ≡ Operand.Local v
      → LooksAt f x k block v
  looks block v term path stands is = by (looks_so e.code func f rules a qs w.form uses block v term path stands is)
    where
      by : LooksSo f a qs block v → LooksAt f x k block v
      by (LooksQuiet h) = Plain (as_shape (λ y. IsQuiet y v) h)
      by (LooksAsked here freed tested passed) =
          Asked here (as_shape (λ y. y.freed v ≡ false) freed) (as_shape (λ y. y.tested v ≡ None) tested)
          (as_shape (λ y. y.passed v ≡ false) passed)
      by (LooksTested q l here same) = Tested (frame q l) (freeing q l) here

  taken : (block label : ℕ) → IsReachedBlock f (0 ∷ []) [] block → HasEdge f block label → (p : Phi)
      → IsListed p (phis_at f (position_of f label)) → (v : ℕ)
      → incoming_from p.incoming (label_from f block) ≡ Operand.Local v → TakesPlain f x k block p v
  taken block label path edge p l v is =
      let t = takes_so e.code func f rules a qs w.form uses block label v p path edge l is in
      record {
        need = as_shape (λ y. y.need v ≡ false) t.need;
        freed = as_shape (λ y. y.freed v ≡ false) t.freed;
        tested = as_shape (λ y. y.tested v ≡ None) t.tested;
        made = λ not_after not_beside unmade. as_shape (λ y. y.made v ≡ false) (t.made not_after not_beside);
        passed = λ apart unpassed. as_shape (λ y. y.passed v ≡ false)
            (t.passed (λ q n m. apart (frame q n) (frees_aside e.code func f rules a qs w.form x w.shape q n m)));
      }

  pub keeps_shape : KeepsShape (function_in e func) (e.shape func) (has_shape e ruled func w small).asks
  keeps_shape = record {
    asking = asking;
    looks = looks;
    takes = λ block label path edge.
        each_listed (λ (p : Phi). (v : ℕ) → incoming_from p.incoming (label_from f block) ≡ Operand.Local v
        → TakesPlain f x k block p v) (phis_at f (position_of f label))
        (λ p l v is. taken block label path edge p l v is);
    frees = frees;
    asides = asides;
  }

  pub shapes_ends : ShapesEnds e func
  shapes_ends = record { shape = has_shape e ruled func w small; ends = keeps_shape }
