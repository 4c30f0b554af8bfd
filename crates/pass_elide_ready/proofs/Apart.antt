-- The blocks of a form are apart from each other, by how they end and from where they are entered.
use Rattle.std.proofs.Common.{◌≡◌, ◌≢◌, ◌⊎◌, inl, inr, ⊎_elim, ℕ, Bool, true, false, List, length, refl, sym, ap, ◌∙◌}
use Rattle.std.proofs.lemmas.Bool.{false≢true}
use Rattle.std.specs.Prelude.{None, Some, is_some, not, if◌then◌else◌, ◌&&◌, ◌||◌, ◌==◌}
use Rattle.pass_elide_edges.specs.Keeping.{EntersAlone, HasEdge}
use Rattle.pass_elide_edges.specs.pass_elide_proof.Assembling.{WaitsBehind, waits_in}
use Rattle.pass_elide_edges.specs.pass_elide_proof.EdgesFreeing.{FreesAside, FreesFrame}
use Rattle.pass_elide_edges.specs.pass_elide_proof.Elision.{Shape}
use Rattle.pass_elide_edges.specs.pass_elide_proof.Places.{instrs_of}
use Rattle.pass_elide_edges.specs.pass_elide_proof.Shapes.{JumpsTo}
use Rattle.pass_elide_ready.proofs.Asked.{after_is, allocates_is, asks_is, beside_is}
use Rattle.pass_elide_ready.proofs.Entries.{no_edge_back}
use Rattle.pass_elide_ready.proofs.FreedForm.{after_apart, allocates_apart, frees_there, jump_edge, one_beside, other_edge}
use Rattle.pass_elide_ready.proofs.Listed.{IsFound, beside_is as table_is, found, nothing, tests_are}
use Rattle.pass_elide_ready.specs.Form.{Asking, Freeing, HasForm, MeetsSo, beside_of, has_both, shape_by}
use Rattle.pass_elide_edges.proofs.pass_elide_proof.pass_proofs.ir_laws.facts.Truth.{and_first, and_second, equal_numbers, itself}
use Rattle.pass_elide_edges.proofs.pass_elide_proof.pass_proofs.ir_laws.facts.local_rules.Woven.{other_number}
use Rattle.pass_elide_edges.specs.pass_elide_proof.pass_proofs.flow_solver.Paths.{IsListed}
use Rattle.pass_elide_edges.specs.pass_elide_proof.pass_proofs.ir_model.Names.{position_of}
use Rattle.pass_elide_edges.specs.pass_elide_proof.pass_proofs.ir_model.declared.instr.Terminator.{Terminator}
use Rattle.pass_elide_edges.specs.pass_elide_proof.pass_proofs.ir_model.declared.module.Function.{Function}
use Rattle.pass_elide_edges.specs.pass_elide_proof.pass_proofs.ir_model.declared.module.Module.{Module}
use Rattle.pass_elide_edges.specs.pass_elide_proof.pass_proofs.ir_model.declared.operand.Operand.{Operand}
use Rattle.pass_elide_edges.specs.pass_elide_proof.pass_proofs.rule_laws.rules.function_rules.Kept.{KeepsFunctionRules}
use Rattle.pass_elide_edges.specs.pass_elide_proof.pass_proofs.run_step.Step.{AtTerm, fetch}

-- a block that ends in a branch ends in no jump
pub no_jump : (f : Function) (block other t one two : ℕ) (x : Operand) → block ≡ other
    → fetch f block (length (instrs_of f block)) ≡ AtTerm (Terminator.Branch x one two) → JumpsTo f other t → ⊥
no_jump f block other t one two x same here j =
    let both : AtTerm (Terminator.Branch x one two) ≡ AtTerm (Terminator.Jump j.label) =
    sym here ∙ ap (λ (b : ℕ). fetch f b (length (instrs_of f b))) same ∙ j.stands in
    absurd (cc)

-- a block stands behind one that frees, and another one beside it
pub record IsBehind (f : Function) (qs : List Freeing) (block other : ℕ) : Type 0 where
  pub element : Freeing
  pub listed : IsListed element qs
  pub after_is : element.after ≡ block
  pub beside_is : element.beside ≡ other
  pub meets : MeetsSo f element

module _ (m : Module) (k : ℕ) (f : Function) (rules : KeepsFunctionRules m k f) (a : Asking) (qs : List Freeing)
    (form : HasForm f a qs) (x : Shape) (p : x ≡ shape_by f a qs) where
  -- ---- blocks that free

  frees_none : (b : ℕ) → ((r : Freeing) → IsListed r qs → r.frees ≢ b) → x.frees b ≡ None
  frees_none b all = ap (λ (z : Shape). z.frees b) p ∙ tests_are qs b
      ∙ nothing (λ (d : Freeing). d.frees == b) (λ (d : Freeing). d.tests) qs
      (λ r l. other_number r.frees b (all r l))

  -- none is one that ends in a branch
  branch_frees_none : (b one two : ℕ) (y : Operand)
      → fetch f b (length (instrs_of f b)) ≡ AtTerm (Terminator.Branch y one two) → x.frees b ≡ None
  branch_frees_none b one two y here = frees_none b (λ r l e.
      no_jump f b r.frees r.after one two y (sym e) here (form.freeing r l).jumps)

  -- nor one that is entered from a block that jumps
  entered_frees_none : (b from label t : ℕ) → HasEdge f from label → position_of f label ≡ b → JumpsTo f from t
      → x.frees b ≡ None
  entered_frees_none b from label t edge leads j = frees_none b (λ r l e.
      let s = form.freeing r l in
      no_jump f r.tests from t r.one r.other (Operand.Local r.tested)
      (sym (s.into_frees from label edge (leads ∙ sym e))) s.branch j)

  pub allocates_frees_none : x.frees a.allocates ≡ None
  allocates_frees_none = frees_none a.allocates (λ r l e. allocates_apart m k f rules a qs form x p r
      (form.freeing r l) e)

  pub after_frees_none : x.frees a.after ≡ None
  after_frees_none = entered_frees_none a.after a.allocates form.asking.jumps.label a.after
      (jump_edge f a.allocates a.after form.asking.jumps) form.asking.jumps.leads form.asking.jumps

  pub behind_frees_none : (r : Freeing) → IsListed r qs → x.frees r.after ≡ None
  behind_frees_none r l =
      let s = form.freeing r l in
      entered_frees_none r.after r.frees s.jumps.label r.after (jump_edge f r.frees r.after s.jumps) s.jumps.leads
      s.jumps

  -- nor the block beside one that frees
  pub beside_frees_none : (r : Freeing) → IsListed r qs → x.frees r.beside ≡ None
  beside_frees_none r l = frees_none r.beside (λ d n e.
      let s = form.freeing r l in
      let t = form.freeing d n in
      let places : r.tests ≡ d.tests = t.into_frees r.tests (if r.is_eq then r.one else r.other)
      (other_edge f r.tests r.one r.other (Operand.Local r.tested) r.is_eq s.branch) (s.to_beside ∙ sym e) in
      t.apart (sym (one_beside m k f rules a qs form x p d r t s places) ∙ sym e))

  -- ---- blocks that wait

  waits_none : (b : ℕ) → b ≢ a.allocates → x.waits b ≡ None
  waits_none b ne = ap (λ (z : Shape). z.waits b) p
      ∙ ap (λ (t : Bool). if t then Some a.asks else None) (other_number b a.allocates ne)

  branch_waits_not : (b one two : ℕ) (y : Operand)
      → fetch f b (length (instrs_of f b)) ≡ AtTerm (Terminator.Branch y one two) → waits_in x b ≡ false
  branch_waits_not b one two y here =
      (λ z. is_some (waits_none b (λ e. no_jump f b a.allocates a.after one two y e here form.asking.jumps) z)
      || is_some (branch_frees_none b one two y here z))

  pub waits_behind : WaitsBehind f x
  waits_behind = record {
    asks = λ q. branch_waits_not q.asks q.one q.other (Operand.Local q.need) q.branch;
    tests = λ q. branch_waits_not q.tests q.one q.other (Operand.Local q.tested) q.branch;
  }

  pub after_waits_none : x.waits a.after ≡ None
  after_waits_none = waits_none a.after form.asking.apart_after

  -- what is entered from a block that jumps isn't the allocator's
  pub behind_apart : (r : Freeing) → IsListed r qs → r.after ≢ a.allocates
  behind_apart r l e =
      let s = form.freeing r l in
      no_jump f a.asks r.frees r.after a.one a.other (Operand.Local a.need)
      (sym (form.asking.into_allocates r.frees s.jumps.label (jump_edge f r.frees r.after s.jumps)
      (s.jumps.leads ∙ e))) form.asking.branch s.jumps

  pub behind_waits_none : (r : Freeing) → IsListed r qs → x.waits r.after ≡ None
  behind_waits_none r l = waits_none r.after (behind_apart r l)

  -- ---- blocks aside

  pub allocates_aside_none : x.aside a.allocates ≡ None
  allocates_aside_none = ap (λ (z : Shape). z.aside a.allocates) p
      ∙ ap (λ (t : Bool). if t then Some a.beside else beside_of qs a.allocates)
      (other_number a.allocates a.after (λ e. form.asking.apart_after (sym e)))
      ∙ table_is qs a.allocates
      ∙ nothing (λ (d : Freeing). (d.after == a.allocates) && has_both d) (λ (d : Freeing). d.beside) qs
      (λ r l. ap (λ (t : Bool). t && has_both r) (other_number r.after a.allocates (behind_apart r l)))

  meets_so : (r : Freeing) → IsListed r qs → has_both r ≡ true → MeetsSo f r
  meets_so r l both = ⊎_elim
      (λ (e : r.after ≡ r.beside). absurd (false≢true (sym (ap not (ap (λ (n : ℕ). n == r.beside) e ∙ itself r.beside))
      ∙ both)))
      (λ (w : MeetsSo f r). w)
      (form.freeing r l).ways

  aside_by : (block other : ℕ) → beside_of qs block ≡ Some other → IsBehind f qs block other
  aside_by block other e =
      let y : IsFound (λ (d : Freeing). (d.after == block) && has_both d) (λ (d : Freeing). d.beside) qs other =
      found (λ (d : Freeing). (d.after == block) && has_both d) (λ (d : Freeing). d.beside) qs other
      (sym (table_is qs block) ∙ e) in
      record {
        element = y.element;
        listed = y.listed;
        after_is = equal_numbers y.element.after block (and_first (y.element.after == block) _ y.passes);
        beside_is = y.value_is;
        meets = meets_so y.element y.listed (and_second (y.element.after == block) _ y.passes);
      }

  pub aside_is : (block other : ℕ) → x.aside block ≡ Some other
      → ((block ≡ a.after) × (other ≡ a.beside)) ⊎ IsBehind f qs block other
  aside_is block other e = on (block == a.after) refl (sym (ap (λ (z : Shape). z.aside block) p) ∙ e)
    where
      on : (t : Bool) → (block == a.after) ≡ t → (if t then Some a.beside else beside_of qs block) ≡ Some other
          → ((block ≡ a.after) × (other ≡ a.beside)) ⊎ IsBehind f qs block other
      on true d h = let same : a.beside ≡ other = cc in inl (equal_numbers block a.after d, sym same)
      on false d h = inr (aside_by block other h)

  -- of a block that frees, behind which another one stands aside
  pub both_behind : (q : FreesFrame f x) → FreesAside f x q.after q.beside → IsBehind f qs q.after q.beside
  both_behind q w = ⊎_elim
      (λ (e : (q.after ≡ a.after) × (q.beside ≡ a.beside)).
      let y = frees_there m k f rules a qs form x p q in
      absurd (after_apart m k f rules a qs form x p y.element (form.freeing y.element y.listed) (y.after_is ∙ e.0)))
      (λ (b : IsBehind f qs q.after q.beside). b)
      (aside_is q.after q.beside w.aside)

  -- ---- blocks that one of two activations enters alone

  into_freed : (q : FreesFrame f x) → FreesAside f x q.after q.beside → (block label : ℕ) → HasEdge f block label
      → position_of f label ≡ q.after → block ≡ q.frees
  into_freed q w block label edge leads =
      let b = both_behind q w in
      let own : (other tag : ℕ) → HasEdge f other tag → position_of f tag ≡ q.after → other ≡ b.element.frees =
      λ other tag d h. b.meets.into_freed other tag d (h ∙ sym b.after_is) in
      own block label edge leads ∙ sym (own q.frees q.jumps.label (jump_edge f q.frees q.after q.jumps) q.jumps.leads)

  into_tested : (q : FreesFrame f x) → FreesAside f x q.after q.beside → (block label : ℕ) → HasEdge f block label
      → position_of f label ≡ q.beside → block ≡ q.tests
  into_tested q w block label edge leads =
      let b = both_behind q w in
      let own : (other tag : ℕ) → HasEdge f other tag → position_of f tag ≡ q.beside → other ≡ b.element.tests =
      λ other tag d h. b.meets.into_tested other tag d (h ∙ sym b.beside_is) in
      own block label edge leads
      ∙ sym (own q.tests (if q.is_eq then q.one else q.other)
      (other_edge f q.tests q.one q.other (Operand.Local q.tested) q.is_eq q.branch) q.to_beside)

  unfreed : (q : FreesFrame f x) → x.frees q.beside ≡ None
  unfreed q =
      let y = frees_there m k f rules a qs form x p q in
      ap (λ (b : ℕ). x.frees b) (sym y.beside_is) ∙ beside_frees_none y.element y.listed

  pub enters_alone : EntersAlone f x
  enters_alone = record {
    entry = no_edge_back m k f rules;
    into_after = λ q block label edge leads.
        form.asking.into_after block label edge (leads ∙ after_is f a qs form.asking x p q)
        ∙ sym (allocates_is f a qs form.asking x p q);
    into_beside = λ q block label edge leads.
        form.asking.into_beside block label edge (leads ∙ beside_is f a qs form.asking x p q)
        ∙ sym (asks_is f a qs form.asking x p q);
    into_freed = into_freed;
    into_tested = into_tested;
    unfreed = λ q w. unfreed q;
    allocates = λ q. (
      ap (λ (b : ℕ). x.frees b) (allocates_is f a qs form.asking x p q) ∙ allocates_frees_none,
      ap (λ (b : ℕ). x.aside b) (allocates_is f a qs form.asking x p q) ∙ allocates_aside_none,
    );
  }
