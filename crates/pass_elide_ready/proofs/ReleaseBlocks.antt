-- The blocks in which a coroutine frees what it tested, where its edges have blocks.
use Rattle.std.proofs.Common.{◌≡◌, ◌≢◌, inl, inr, ◌+◌, ◌<◌, ℕ, Bool, true, false, List, [], ◌∷◌, ◌++◌, length, refl, sym, ap, ◌∙◌, subst}
use Rattle.std.specs.Prelude.{Some, slice_get, unwrap_or, if◌then◌else◌}
use Rattle.pass_elide_ready.proofs.Comes.{into_edge, into_single, one_entry, only_edge}
use Rattle.pass_elide_ready.proofs.EndsAlike.{ends_at}
use Rattle.pass_elide_ready.proofs.GuardBlocks.{found_label}
use Rattle.pass_elide_ready.proofs.Releases.{IsReleasedBy, free_label, null_label, released_by}
use Rattle.pass_elide_ready.specs.Blocks.{FreeingBlocks, FreesBlocks, MeetsBlocks}
use Rattle.elide_shape.specs.Frees.{is_tested_next}
use Rattle.pass_elide_edges.proofs.pass_elide_proof.pass_proofs.edges.paths.Blocks.{own_number, position_edge, position_moved, spot}
use Rattle.pass_elide_edges.proofs.pass_elide_proof.pass_proofs.edges.paths.Edges.{edges_of_block}
use Rattle.pass_elide_edges.proofs.pass_elide_proof.pass_proofs.edges.paths.Tables.{flag_at}
use Rattle.pass_elide_edges.proofs.pass_elide_proof.pass_proofs.edges.rules.Homes.{edge_spots, edge_there, own_block, own_there, spots_apart, spots_no_edge, target_low}
use Rattle.pass_elide_edges.proofs.pass_elide_proof.pass_proofs.rule_laws.rules.known_labels.Known.{labels_known}
use Rattle.pass_elide_edges.proofs.pass_elide_proof.pass_proofs.rule_laws.rules.source_rules.Locals.{own_label}
use Rattle.pass_elide_edges.proofs.pass_elide_proof.pass_proofs.rule_laws.rules.threaded.Labels.{target_there}
use Rattle.pass_elide_edges.specs.pass_elide_proof.pass_proofs.edges.paths.Phis.{AreLabelsOnce}
use Rattle.pass_elide_edges.specs.pass_elide_proof.pass_proofs.flow_solver.Paths.{IsListed}
use Rattle.pass_elide_edges.specs.pass_elide_proof.pass_proofs.ir_laws.paths.threads.Labels.{HasNamedLabels}
use Rattle.pass_elide_edges.specs.pass_elide_proof.pass_proofs.ir_model.Names.{position_of}
use Rattle.pass_elide_edges.specs.pass_elide_proof.pass_proofs.ir_model.declared.instr.Terminator.{Terminator}
use Rattle.pass_elide_edges.specs.pass_elide_proof.pass_proofs.ir_model.declared.module.Block.{Block}
use Rattle.pass_elide_edges.specs.pass_elide_proof.pass_proofs.ir_model.declared.module.Function.{Function}
use Rattle.pass_elide_edges.specs.pass_elide_proof.pass_proofs.ir_model.declared.module.Module.{Module}
use Rattle.pass_elide_edges.specs.pass_elide_proof.pass_proofs.ir_model.declared.operand.Operand.{Operand}
use Rattle.pass_elide_edges.specs.pass_elide_proof.pass_proofs.ir_paths.Paths.{targets}
use Rattle.pass_elide_edges.specs.pass_elide_proof.pass_proofs.pass_edges.EdgeBlocks.{edge_block, split_label, split_term, with_edge_blocks}
use Rattle.pass_elide_edges.specs.pass_elide_proof.pass_proofs.pass_edges.Edges.{edge_to, ends_in_suspend, has_phis, is_split, phi_flags, term_edges}
use Rattle.pass_elide_edges.specs.pass_elide_proof.pass_proofs.pass_edges.declared.edge.Edge.{Edge as OwnEdge}
use Rattle.pass_elide_edges.specs.pass_elide_proof.pass_proofs.rule_laws.rules.function_rules.Kept.{KeepsFunctionRules}
use Rattle.pass_elide_edges.specs.pass_elide_proof.pass_proofs.run_step.Step.{AtTerm}

-- ---- a branch of which one way may get a block

module _ (flags : List Bool) (resumes : Bool) (n from : ℕ) (x : Operand) (one other : ℕ) where
  abbrev own_edge : ℕ → OwnEdge
  own_edge target = record { from = from; target = target; label = n }

  -- none does
  both_stay : is_split flags false one ≡ false → is_split flags false other ≡ false
      → split_term flags resumes n (Terminator.Branch x one other) ≡ Terminator.Branch x one other
  both_stay c d =
      (λ i. Terminator.Branch x (if c i then n else one)
      (split_label flags false (if c i then n + 1 else n) other))
      ∙ ap (λ (t : Bool). Terminator.Branch x one (if t then n else other)) d

  no_edges : is_split flags false one ≡ false → is_split flags false other ≡ false
      → term_edges flags resumes from n (Terminator.Branch x one other) ≡ []
  no_edges c d =
      (λ i. (if c i then own_edge one ∷ [] else []) ++ edge_to flags false from (if c i then n + 1 else n) other)
      ∙ ap (λ (t : Bool). if t then own_edge other ∷ [] else []) d

  -- the first one does
  first_split : is_split flags false one ≡ true → is_split flags false other ≡ false
      → split_term flags resumes n (Terminator.Branch x one other) ≡ Terminator.Branch x n other
  first_split c d =
      (λ i. Terminator.Branch x (if c i then n else one)
      (split_label flags false (if c i then n + 1 else n) other))
      ∙ ap (λ (t : Bool). Terminator.Branch x n (if t then n + 1 else other)) d

  first_edges : is_split flags false one ≡ true → is_split flags false other ≡ false
      → term_edges flags resumes from n (Terminator.Branch x one other) ≡ own_edge one ∷ []
  first_edges c d =
      (λ i. (if c i then own_edge one ∷ [] else []) ++ edge_to flags false from (if c i then n + 1 else n) other)
      ∙ ap (λ (t : Bool). own_edge one ∷ (if t then record { from = from; target = other; label = n + 1 } ∷ [] else
      [])) d

  -- the second one does
  second_split : is_split flags false one ≡ false → is_split flags false other ≡ true
      → split_term flags resumes n (Terminator.Branch x one other) ≡ Terminator.Branch x one n
  second_split c d =
      (λ i. Terminator.Branch x (if c i then n else one)
      (split_label flags false (if c i then n + 1 else n) other))
      ∙ ap (λ (t : Bool). Terminator.Branch x one (if t then n else other)) d

  second_edges : is_split flags false one ≡ false → is_split flags false other ≡ true
      → term_edges flags resumes from n (Terminator.Branch x one other) ≡ own_edge other ∷ []
  second_edges c d =
      (λ i. (if c i then own_edge one ∷ [] else []) ++ edge_to flags false from (if c i then n + 1 else n) other)
      ∙ ap (λ (t : Bool). if t then own_edge other ∷ [] else []) d

-- so with the way where it is null
record SplitsNull (flags : List Bool) (resumes : Bool) (n from : ℕ) (x : Operand) (is_eq : Bool) (one other : ℕ)
    : Type 0 where
  first : ℕ
  second : ℕ
  term : split_term flags resumes n (Terminator.Branch x one other) ≡ Terminator.Branch x first second
  free : (if is_eq then second else first) ≡ (if is_eq then other else one)
  null : (if is_eq then first else second) ≡ n
  edges : term_edges flags resumes from n (Terminator.Branch x one other)
      ≡ record { from = from; target = if is_eq then one else other; label = n } ∷ []

splits_null : (flags : List Bool) (resumes : Bool) (n from : ℕ) (x : Operand) (is_eq : Bool) (one other : ℕ)
    → is_split flags false (if is_eq then other else one) ≡ false
    → is_split flags false (if is_eq then one else other) ≡ true
    → SplitsNull flags resumes n from x is_eq one other
splits_null flags resumes n from x true one other c d = record {
  first = n;
  second = other;
  term = first_split flags resumes n from x one other d c;
  free = refl;
  null = refl;
  edges = first_edges flags resumes n from x one other d c;
}
splits_null flags resumes n from x false one other c d = record {
  first = one;
  second = n;
  term = second_split flags resumes n from x one other c d;
  free = refl;
  null = refl;
  edges = second_edges flags resumes n from x one other c d;
}

stays_both : (flags : List Bool) (resumes : Bool) (n from : ℕ) (x : Operand) (is_eq : Bool) (one other : ℕ)
    → is_split flags false (if is_eq then other else one) ≡ false
    → is_split flags false (if is_eq then one else other) ≡ false
    → (split_term flags resumes n (Terminator.Branch x one other) ≡ Terminator.Branch x one other)
    × (term_edges flags resumes from n (Terminator.Branch x one other) ≡ [])
stays_both flags resumes n from x true one other c d =
    (both_stay flags resumes n from x one other d c, no_edges flags resumes n from x one other d c)
stays_both flags resumes n from x false one other c d =
    (both_stay flags resumes n from x one other c d, no_edges flags resumes n from x one other c d)

either_listed : (x : Operand) (one other : ℕ) (b : Bool)
    → IsListed (if b then other else one) (targets (Terminator.Branch x one other))
either_listed x one other true = inr (inl refl)
either_listed x one other false = inl refl

either_at : (x : Operand) (one other : ℕ) (b : Bool)
    → slice_get (targets (Terminator.Branch x one other)) (if b then 1 else 0) ≡ Some (if b then other else one)
either_at x one other true = refl
either_at x one other false = refl

other_listed : (x : Operand) (one other : ℕ) (b : Bool)
    → IsListed (if b then one else other) (targets (Terminator.Branch x one other))
other_listed x one other true = inl refl
other_listed x one other false = inr (inl refl)

module _ (m : Module) (number : ℕ) (f : Function) (rules : KeepsFunctionRules m number f) (k : ℕ) (b : Block)
    (got : slice_get f.blocks k ≡ Some b) (v at : ℕ) (x : IsReleasedBy f v b at) where
  named : HasNamedLabels f
  named = labels_known number f rules.tabled m rules.known

  once : AreLabelsOnce f
  once = own_label number f rules.definitions

  abbrev g : Function
  g = with_edge_blocks f

  abbrev flags : List Bool
  flags = phi_flags f

  abbrev free : ℕ
  free = free_label f v b at x.test

  abbrev null : ℕ
  null = null_label f v b at x.test

  abbrev s : ℕ
  s = position_of f free

  abbrev n : ℕ
  n = position_of f null

  abbrev last : ℕ
  last = x.release.jump.label

  abbrev tested : Operand
  tested = Operand.Local x.test.name

  -- ---- labels and flags

  free_listed : IsListed free (targets b.term)
  free_listed = subst (λ (t : Terminator). IsListed free (targets t)) (sym x.test.branch)
      (either_listed tested x.test.one x.test.other x.test.is_eq)

  null_listed : IsListed null (targets b.term)
  null_listed = subst (λ (t : Terminator). IsListed null (targets t)) (sym x.test.branch)
      (other_listed tested x.test.one x.test.other x.test.is_eq)

  last_listed : IsListed last (targets x.release.block.term)
  last_listed = subst (λ (t : Terminator). IsListed last (targets t)) (sym x.release.jump.jumps) (inl refl)

  free_stays : is_split flags false free ≡ false
  free_stays =
      ap (λ (l : ℕ). unwrap_or (slice_get flags l) false)
      (sym (found_label f.blocks free s x.release.block refl x.release.got))
      ∙ flag_at f once named s x.release.block x.release.got ∙ ap has_phis x.release.only.bare

  last_is : last ≡ null
  last_is =
      let one = target_there m number f rules.definitions rules.known s x.release.block last x.release.got
      last_listed in
      let two = target_there m number f rules.definitions rules.known k b null got null_listed in
      let both : Some one.block ≡ Some two.block =
      sym one.there ∙ ap (slice_get f.blocks) x.release.jump.leads ∙ two.there in
      let same : one.block ≡ two.block = cc in
      sym one.is_label ∙ ap (λ (y : Block). y.label) same ∙ two.is_label

  -- ---- blocks

  tests_frees : k ≢ s
  tests_frees e =
      let both : Some b ≡ Some x.release.block = sym got ∙ ap (slice_get f.blocks) e ∙ x.release.got in
      let same : b ≡ x.release.block = cc in
      let terms : Terminator.Branch tested x.test.one x.test.other ≡ Terminator.Jump last =
      sym x.test.branch ∙ ap (λ (y : Block). y.term) same ∙ x.release.jump.jumps in
      absurd (cc)

  free_at : slice_get (targets b.term) (if x.test.is_eq then 1 else 0) ≡ Some free
  free_at = ap (λ (t : Terminator). slice_get (targets t) (if x.test.is_eq then 1 else 0)) x.test.branch
      ∙ either_at tested x.test.one x.test.other x.test.is_eq

  -- the block that frees doesn't lead to itself
  null_frees : n ≢ s
  null_frees e = tests_frees (sym (one_entry f named s k b (if x.test.is_eq then 1 else 0) free x.release.into got
      free_at refl s x.release.block 0 last x.release.got
      (ap (λ (t : Terminator). slice_get (targets t) 0) x.release.jump.jumps) (x.release.jump.leads ∙ e)))

  low_free : free < length f.names
  low_free = target_low f named k b free got free_listed

  low_null : null < length f.names
  low_null = target_low f named k b null got null_listed

  low_last : last < length f.names
  low_last = target_low f named s x.release.block last x.release.got last_listed

  abbrev own_tests : Block
  own_tests = own_block f k b

  abbrev own_frees : Block
  own_frees = own_block f s x.release.block

  tests_there : slice_get g.blocks (spot f k) ≡ Some own_tests
  tests_there = own_there f k b got

  frees_there : slice_get g.blocks (spot f s) ≡ Some own_frees
  frees_there = own_there f s x.release.block x.release.got

  -- ---- where no block is on either edge

  module _ (stays : is_split flags false null ≡ false) where
    both : (own_tests.term ≡ Terminator.Branch tested x.test.one x.test.other) × (edges_of_block f k b ≡ [])
    both =
        let y = stays_both flags (ends_in_suspend b.instrs) (own_number f k) b.label tested x.test.is_eq x.test.one
        x.test.other free_stays stays in (
          ap (split_term flags (ends_in_suspend b.instrs) (own_number f k)) x.test.branch ∙ y.0,
          ap (term_edges flags (ends_in_suspend b.instrs) b.label (own_number f k)) x.test.branch ∙ y.1,
        )

    frees_term : own_frees.term ≡ Terminator.Jump last
    frees_term =
        ap (split_term flags (ends_in_suspend x.release.block.instrs) (own_number f s)) x.release.jump.jumps
        ∙ ap (λ (t : Bool). Terminator.Jump (if t then own_number f s else last))
        (ap (is_split flags false) last_is ∙ stays)

    abbrev plain_blocks : FreeingBlocks
    plain_blocks = record {
      tests = spot f k;
      frees = spot f s;
      after = spot f n;
      beside = spot f n;
      is_eq = x.test.is_eq;
      one = x.test.one;
      other = x.test.other;
    }

    plain_frees : FreesBlocks g plain_blocks
    plain_frees = record {
      on = tested;
      branch = ends_at g (spot f k) own_tests tests_there ∙ ap AtTerm both.0;
      to_free = position_moved f free low_free;
      to_beside = position_moved f null low_null;
      jumps = record {
        label = last;
        stands = ends_at g (spot f s) own_frees frees_there ∙ ap AtTerm frees_term;
        leads = position_moved f last low_last ∙ ap (spot f) x.release.jump.leads;
      };
      apart = λ e. null_frees (spots_apart f n s e);
      into_frees = into_single f named s k b (if x.test.is_eq then 1 else 0) free x.release.into got free_at refl
          (λ i e there to. none (edges_of_block f k b) both.1 i e there);
      ways = inl refl;
    }
      where
        none : (es : List OwnEdge) → es ≡ [] → (i : ℕ) (e : OwnEdge) → slice_get es i ≡ Some e → ⊥
        none es is i e there =
            let nothing : slice_get [] i ≡ Some e = ap (λ (zs : List OwnEdge). slice_get zs i) (sym is) ∙ there in
            absurd (cc)

  -- ---- where blocks are on both

  module _ (splits : is_split flags false null ≡ true) where
    split : SplitsNull flags (ends_in_suspend b.instrs) (own_number f k) b.label tested x.test.is_eq x.test.one
        x.test.other
    split = splits_null flags (ends_in_suspend b.instrs) (own_number f k) b.label tested x.test.is_eq x.test.one
        x.test.other free_stays splits

    abbrev tests_edge : OwnEdge
    tests_edge = record { from = b.label; target = null; label = own_number f k }

    abbrev frees_edge : OwnEdge
    frees_edge = record { from = x.release.block.label; target = last; label = own_number f s }

    last_splits : is_split flags false last ≡ true
    last_splits = ap (is_split flags false) last_is ∙ splits

    tests_edges : edges_of_block f k b ≡ tests_edge ∷ []
    tests_edges = ap (term_edges flags (ends_in_suspend b.instrs) b.label (own_number f k)) x.test.branch ∙ split.edges

    frees_edges : edges_of_block f s x.release.block ≡ frees_edge ∷ []
    frees_edges =
        ap (term_edges flags (ends_in_suspend x.release.block.instrs) x.release.block.label (own_number f s))
        x.release.jump.jumps
        ∙ ap (λ (t : Bool). if t then frees_edge ∷ [] else []) last_splits

    tests_first : slice_get (edges_of_block f k b) 0 ≡ Some tests_edge
    tests_first = ap (λ (es : List OwnEdge). slice_get es 0) tests_edges

    frees_first : slice_get (edges_of_block f s x.release.block) 0 ≡ Some frees_edge
    frees_first = ap (λ (es : List OwnEdge). slice_get es 0) frees_edges

    tests_term : own_tests.term ≡ Terminator.Branch tested split.first split.second
    tests_term = ap (split_term flags (ends_in_suspend b.instrs) (own_number f k)) x.test.branch ∙ split.term

    jumps_term : own_frees.term ≡ Terminator.Jump (own_number f s)
    jumps_term =
        ap (split_term flags (ends_in_suspend x.release.block.instrs) (own_number f s)) x.release.jump.jumps
        ∙ ap (λ (t : Bool). Terminator.Jump (if t then own_number f s else last)) last_splits

    abbrev both_blocks : FreeingBlocks
    both_blocks = record {
      tests = spot f k;
      frees = spot f s;
      after = spot f s + 1;
      beside = spot f k + 1;
      is_eq = x.test.is_eq;
      one = split.first;
      other = split.second;
    }

    meets_blocks : MeetsBlocks g both_blocks
    meets_blocks = record {
      apart = λ e. tests_frees (edge_spots f k s b x.release.block 0 0 tests_edge frees_edge got tests_first
          x.release.got frees_first e);
      ends = spot f n;
      joins = record {
        label = last;
        stands = ends_at g (spot f s + 1) (edge_block frees_edge)
            (edge_there f s x.release.block 0 frees_edge x.release.got frees_first);
        leads = position_moved f last low_last ∙ ap (spot f) x.release.jump.leads;
      };
      meets = record {
        label = null;
        stands = ends_at g (spot f k + 1) (edge_block tests_edge) (edge_there f k b 0 tests_edge got tests_first);
        leads = position_moved f null low_null;
      };
      into_freed = into_edge f named s x.release.block 0 frees_edge x.release.got frees_first;
      into_tested = into_edge f named k b 0 tests_edge got tests_first;
    }

    both_frees : FreesBlocks g both_blocks
    both_frees = record {
      on = tested;
      branch = ends_at g (spot f k) own_tests tests_there ∙ ap AtTerm tests_term;
      to_free = ap (position_of g) split.free ∙ position_moved f free low_free;
      to_beside = ap (position_of g) split.null ∙ position_edge f named k b 0 tests_edge got tests_first;
      jumps = record {
        label = own_number f s;
        stands = ends_at g (spot f s) own_frees frees_there ∙ ap AtTerm jumps_term;
        leads = position_edge f named s x.release.block 0 frees_edge x.release.got frees_first;
      };
      apart = λ e. spots_no_edge f named k b 0 tests_edge got tests_first s (sym e);
      into_frees = into_single f named s k b (if x.test.is_eq then 1 else 0) free x.release.into got free_at refl
          (λ i e there to. null_frees (sym (ap (λ (y : OwnEdge). position_of f y.target)
          (only_edge (edges_of_block f k b) tests_edge tests_edges i e there).1) ∙ to));
      ways = inr meets_blocks;
    }

  -- ---- one or the other

  pub release_blocks : (q : FreeingBlocks) × ((q.tests ≡ spot f k) × ((w : FreesBlocks g q) × (w.on ≡ tested)))
  unfolding both_frees plain_frees
  release_blocks = on (is_split flags false null) refl
    where
      on : (t : Bool) → is_split flags false null ≡ t
          → (q : FreeingBlocks) × ((q.tests ≡ spot f k) × ((w : FreesBlocks g q) × (w.on ≡ tested)))
      on true e = (both_blocks e, (refl, (both_frees e, refl)))
      on false e = (plain_blocks e, (refl, (plain_frees e, refl)))

pub tested_blocks : (m : Module) (number : ℕ) (f : Function) → KeepsFunctionRules m number f → (k from v at : ℕ)
    (b : Block) → slice_get f.blocks k ≡ Some b → is_tested_next f from v b at ≡ true
    → (q : FreeingBlocks) × FreesBlocks (with_edge_blocks f) q
tested_blocks m number f rules k from v at b got tested =
    let x = release_blocks m number f rules k b got v at (released_by f from v b at tested) in
    (x.0, x.1.1.0)
