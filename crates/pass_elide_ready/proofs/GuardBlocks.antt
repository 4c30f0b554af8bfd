-- The blocks in which a guarded coroutine asks for its frame, where its edges have blocks.
use Rattle.std.proofs.Common.{◌≡◌, ◌≢◌, ◌⊎◌, inl, inr, ⊎_elim, ◌+◌, ◌<◌, ℕ, suc, Bool, true, false, List, [], ◌∷◌, ◌++◌, length, refl, sym, ap, ◌∙◌, subst, arith}
use Rattle.std.proofs.lemmas.Bool.{false≢true}
use Rattle.std.specs.Prelude.{None, Option, Some, option_map, slice_get, unwrap_or, if◌then◌else◌, ◌==◌}
use Rattle.elide_shape.specs.Edges.{edges_of}
use Rattle.elide_shape.specs.Guard.{is_guarded}
use Rattle.elide_shape.specs.declared.edges.Edge.{Edge}
use Rattle.pass_elide_edges.specs.Keeping.{HasEdge}
use Rattle.pass_elide_edges.specs.pass_elide_proof.Shapes.{JumpsTo}
use Rattle.pass_elide_ready.proofs.Comes.{ComesFromEdge, ComesFromOwn, LandsBetween, LandsOwn, comes_from, into_edge, into_single, lands, listed_at, only_edge, same_own}
use Rattle.pass_elide_ready.proofs.Counted.{two_counted}
use Rattle.pass_elide_ready.proofs.EdgeRows.{edge_at, edge_listed}
use Rattle.pass_elide_ready.proofs.EndsAlike.{ends_at}
use Rattle.pass_elide_ready.proofs.Guards.{IsGuarded, guarded_is}
use Rattle.pass_elide_ready.specs.Blocks.{AsksBlocks, AskingBlocks}
use Rattle.pass_elide_edges.proofs.pass_elide_proof.pass_proofs.edges.paths.Blocks.{own_number, position_edge, position_moved, spot}
use Rattle.pass_elide_edges.proofs.pass_elide_proof.pass_proofs.edges.paths.Edges.{edges_of_block}
use Rattle.pass_elide_edges.proofs.pass_elide_proof.pass_proofs.edges.paths.Tables.{flag_at}
use Rattle.pass_elide_edges.proofs.pass_elide_proof.pass_proofs.edges.rules.Homes.{edge_spots, edge_there, own_block, own_there, spots_apart, spots_no_edge, target_low}
use Rattle.pass_elide_edges.proofs.pass_elide_proof.pass_proofs.ir_laws.facts.Truth.{equal_numbers, itself}
use Rattle.pass_elide_edges.proofs.pass_elide_proof.pass_proofs.rule_laws.rules.known_labels.Known.{labels_known}
use Rattle.pass_elide_edges.proofs.pass_elide_proof.pass_proofs.rule_laws.rules.source_rules.Locals.{own_label}
use Rattle.pass_elide_edges.specs.pass_elide_proof.pass_proofs.edges.paths.Phis.{AreLabelsOnce}
use Rattle.pass_elide_edges.specs.pass_elide_proof.pass_proofs.flow_solver.Paths.{IsListed}
use Rattle.pass_elide_edges.specs.pass_elide_proof.pass_proofs.ir_laws.paths.threads.Labels.{HasNamedLabels}
use Rattle.pass_elide_edges.specs.pass_elide_proof.pass_proofs.ir_model.Names.{first_where, position_of}
use Rattle.pass_elide_edges.specs.pass_elide_proof.pass_proofs.ir_model.declared.instr.Terminator.{Terminator}
use Rattle.pass_elide_edges.specs.pass_elide_proof.pass_proofs.ir_model.declared.module.Block.{Block}
use Rattle.pass_elide_edges.specs.pass_elide_proof.pass_proofs.ir_model.declared.module.Function.{Function}
use Rattle.pass_elide_edges.specs.pass_elide_proof.pass_proofs.ir_model.declared.module.Module.{Module}
use Rattle.pass_elide_edges.specs.pass_elide_proof.pass_proofs.ir_model.declared.operand.Operand.{Operand}
use Rattle.pass_elide_edges.specs.pass_elide_proof.pass_proofs.ir_paths.Paths.{targets}
use Rattle.pass_elide_edges.specs.pass_elide_proof.pass_proofs.pass_edges.EdgeBlocks.{edge_block, split_label, split_term, with_edge_blocks}
use Rattle.pass_elide_edges.specs.pass_elide_proof.pass_proofs.pass_edges.Edges.{edge_to, ends_in_suspend, has_phis, is_split, phi_flags, term_edges}
use Rattle.pass_elide_edges.specs.pass_elide_proof.pass_proofs.pass_edges.declared.edge.Edge.{Edge as OwnEdge}
use Rattle.pass_elide_edges.specs.pass_elide_proof.pass_proofs.rule_laws.rules.function_rules.Kept.{KeepsFunctionRules}
use Rattle.pass_elide_edges.specs.pass_elide_proof.pass_proofs.run_step.Step.{AtTerm}

nothing : (ys : List Block) → slice_get ys (length ys) ≡ None
nothing [] = refl
nothing (y ∷ ys) = nothing ys

-- a block in which a label is found has it
pub found_label : (bs : List Block) (label k : ℕ) (b : Block)
    → unwrap_or (first_where (λ (x : Block). x.label == label) bs) (length bs) ≡ k → slice_get bs k ≡ Some b
    → b.label ≡ label
found_label [] label k b e got = absurd (cc)
found_label (x ∷ bs) label k b e got =
    on (x.label == label) refl e (λ j d h. found_label bs label j b d h)
  where
    later : (o : Option ℕ) → first_where (λ (y : Block). y.label == label) bs ≡ o
        → unwrap_or (option_map suc o) (suc (length bs)) ≡ k
        → ((j : ℕ) → unwrap_or (first_where (λ (y : Block). y.label == label) bs) (length bs) ≡ j
        → slice_get bs j ≡ Some b → b.label ≡ label) → b.label ≡ label
    later None d h more =
        let there : slice_get bs (length bs) ≡ Some b = subst (λ (n : ℕ). slice_get (x ∷ bs) n ≡ Some b) (sym h) got in
        let both : None ≡ Some b = sym (nothing bs) ∙ there in
        absurd (cc)
    later (Some j) d h more =
        more j (ap (λ (o : Option ℕ). unwrap_or o (length bs)) d)
        (subst (λ (n : ℕ). slice_get (x ∷ bs) n ≡ Some b) (sym h) got)

    on : (t : Bool) → (x.label == label) ≡ t
        → unwrap_or (if t then Some 0 else option_map suc (first_where (λ (y : Block). y.label == label) bs))
        (suc (length bs)) ≡ k
        → ((j : ℕ) → unwrap_or (first_where (λ (y : Block). y.label == label) bs) (length bs) ≡ j
        → slice_get bs j ≡ Some b → b.label ≡ label) → b.label ≡ label
    on true d h more =
        let same : Some x ≡ Some b = subst (λ (n : ℕ). slice_get (x ∷ bs) n ≡ Some b) (sym h) got in
        let one : x ≡ b = cc in
        ap (λ (y : Block). y.label) (sym one) ∙ equal_numbers x.label label d
    on false d h more = later (first_where (λ (y : Block). y.label == label) bs) refl h more

module _ (f : Function) (named : HasNamedLabels f) (once : AreLabelsOnce f) (x : IsGuarded f) where
  abbrev g : Function
  g = with_edge_blocks f

  abbrev a : ℕ
  a = x.asked.question.block

  abbrev d : ℕ
  d = position_of f x.asked.one

  abbrev b : ℕ
  b = position_of f x.asked.other

  abbrev last : ℕ
  last = x.guard.allocator.label

  -- ---- flags

  flag_is : (label k : ℕ) (y : Block) → position_of f label ≡ k → slice_get f.blocks k ≡ Some y
      → unwrap_or (slice_get (phi_flags f) label) false ≡ has_phis y.phis
  flag_is label k y e got =
      ap (λ (n : ℕ). unwrap_or (slice_get (phi_flags f) n) false) (sym (found_label f.blocks label k y e got))
      ∙ flag_at f once named k y got

  one_unsplit : is_split (phi_flags f) false x.asked.one ≡ false
  one_unsplit = flag_is x.asked.one d x.guard.allocating refl x.guard.got_allocating
      ∙ ap has_phis x.guard.allocator.bare

  begins_flag : (label : ℕ) → position_of f label ≡ b → unwrap_or (slice_get (phi_flags f) label) false ≡ true
  begins_flag label e = flag_is label b x.guard.beginning e x.guard.got_beginning ∙ ap has_phis x.guard.phis

  other_split : is_split (phi_flags f) false x.asked.other ≡ true
  other_split = begins_flag x.asked.other refl

  last_split : is_split (phi_flags f) false last ≡ true
  last_split = begins_flag last x.guard.allocator.leads

  -- ---- what ends the two blocks

  abbrev asking_edge : OwnEdge
  asking_edge = record { from = x.asked.asking.label; target = x.asked.other; label = own_number f a }

  abbrev last_edge : OwnEdge
  last_edge = record { from = x.guard.allocating.label; target = last; label = own_number f d }

  asking_edges : edges_of_block f a x.asked.asking ≡ asking_edge ∷ []
  asking_edges =
      ap (term_edges (phi_flags f) (ends_in_suspend x.asked.asking.instrs) x.asked.asking.label (own_number f a))
      x.asked.branch
      ∙ (λ i. (if one_unsplit i then record {
        from = x.asked.asking.label;
        target = x.asked.one;
        label = own_number
            f a;
      } ∷ []
      else []) ++ edge_to (phi_flags f) false x.asked.asking.label
      (if one_unsplit i then own_number f a + 1 else own_number f a)
      x.asked.other)
      ∙ ap (λ (t : Bool). if t then asking_edge ∷ [] else []) other_split

  last_edges : edges_of_block f d x.guard.allocating ≡ last_edge ∷ []
  last_edges =
      ap (term_edges (phi_flags f) (ends_in_suspend x.guard.allocating.instrs) x.guard.allocating.label
      (own_number f d))
      x.guard.allocator.jumps
      ∙ ap (λ (t : Bool). if t then last_edge ∷ [] else []) last_split

  asking_there : slice_get (edges_of_block f a x.asked.asking) 0 ≡ Some asking_edge
  asking_there = ap (λ (es : List OwnEdge). slice_get es 0) asking_edges

  last_there : slice_get (edges_of_block f d x.guard.allocating) 0 ≡ Some last_edge
  last_there = ap (λ (es : List OwnEdge). slice_get es 0) last_edges

  asking_term : (own_block f a x.asked.asking).term
      ≡ Terminator.Branch (Operand.Local x.asked.need) x.asked.one (own_number f a)
  asking_term =
      ap (split_term (phi_flags f) (ends_in_suspend x.asked.asking.instrs) (own_number f a)) x.asked.branch
      ∙ (λ i. Terminator.Branch (Operand.Local x.asked.need) (if one_unsplit i then own_number f a else x.asked.one)
      (split_label (phi_flags f) false (if one_unsplit i then own_number f a + 1 else own_number f a) x.asked.other))
      ∙ ap (λ (t : Bool). Terminator.Branch (Operand.Local x.asked.need) x.asked.one
      (if t then own_number f a else x.asked.other)) other_split

  last_term : (own_block f d x.guard.allocating).term ≡ Terminator.Jump (own_number f d)
  last_term =
      ap (split_term (phi_flags f) (ends_in_suspend x.guard.allocating.instrs)
      (own_number f d)) x.guard.allocator.jumps
      ∙ ap (λ (t : Bool). Terminator.Jump (if t then own_number f d else last)) last_split

  -- ---- its blocks

  low_one : x.asked.one < length f.names
  low_one = target_low f named a x.asked.asking x.asked.one x.asked.got
      (subst (λ (t : Terminator). IsListed x.asked.one (targets t)) (sym x.asked.branch) (inl refl))

  low_other : x.asked.other < length f.names
  low_other = target_low f named a x.asked.asking x.asked.other x.asked.got
      (subst (λ (t : Terminator). IsListed x.asked.other (targets t)) (sym x.asked.branch) (inr (inl refl)))

  low_last : last < length f.names
  low_last = target_low f named d x.guard.allocating last x.guard.got_allocating
      (subst (λ (t : Terminator). IsListed last (targets t)) (sym x.guard.allocator.jumps) (inl refl))

  after_there : slice_get g.blocks (spot f d + 1) ≡ Some (edge_block last_edge)
  after_there = edge_there f d x.guard.allocating 0 last_edge x.guard.got_allocating last_there

  beside_there : slice_get g.blocks (spot f a + 1) ≡ Some (edge_block asking_edge)
  beside_there = edge_there f a x.asked.asking 0 asking_edge x.asked.got asking_there

  abbrev pub blocks : AskingBlocks
  blocks = record {
    asks = spot f a;
    allocates = spot f d;
    after = spot f d + 1;
    beside = spot f a + 1;
    begins = spot f b;
    one = x.asked.one;
    other = own_number f a;
  }

  jumps : JumpsTo g (spot f d) (spot f d + 1)
  jumps = record {
    label = own_number f d;
    stands = ends_at g (spot f d) (own_block f d x.guard.allocating)
        (own_there f d x.guard.allocating x.guard.got_allocating)
        ∙ ap AtTerm last_term;
    leads = position_edge f named d x.guard.allocating 0 last_edge x.guard.got_allocating last_there;
  }

  joins : JumpsTo g (spot f d + 1) (spot f b)
  joins = record {
    label = last;
    stands = ends_at g (spot f d + 1) (edge_block last_edge) after_there;
    leads = position_moved f last low_last ∙ ap (spot f) x.guard.allocator.leads;
  }

  meets : JumpsTo g (spot f a + 1) (spot f b)
  meets = record {
    label = x.asked.other;
    stands = ends_at g (spot f a + 1) (edge_block asking_edge) beside_there;
    leads = position_moved f x.asked.other low_other;
  }

  -- ---- they are apart

  asks_allocates : a ≢ d
  asks_allocates e =
      let both : Some x.asked.asking ≡ Some x.guard.allocating =
      sym x.asked.got ∙ ap (slice_get f.blocks) e ∙ x.guard.got_allocating in
      let same : x.asked.asking ≡ x.guard.allocating = cc in
      let terms : Terminator.Branch (Operand.Local x.asked.need) x.asked.one x.asked.other ≡ Terminator.Jump last =
      sym x.asked.branch ∙ ap (λ (y : Block). y.term) same ∙ x.guard.allocator.jumps in
      absurd (cc)

  begins_allocates : b ≢ d
  begins_allocates e =
      let both : Some x.guard.beginning ≡ Some x.guard.allocating =
      sym x.guard.got_beginning ∙ ap (slice_get f.blocks) e ∙ x.guard.got_allocating in
      let same : x.guard.beginning ≡ x.guard.allocating = cc in
      let lists : x.guard.phi ∷ x.guard.others ≡ [] =
      sym x.guard.phis ∙ ap (λ (y : Block). y.phis) same ∙ x.guard.allocator.bare in
      absurd (cc)

  -- ---- edges of the function into the two blocks

  into_two : (k : ℕ) (c : Block) (at target : ℕ) → slice_get f.blocks k ≡ Some c
      → slice_get (targets c.term) at ≡ Some target → position_of f target ≡ b → (k ≡ a) ⊎ (k ≡ d)
  into_two k c at target got there to = ⊎_elim
      (λ (e : edge_at f k at target ≡ edge_at f a 1 x.asked.other). inl (ap (λ (y : Edge). y.from) e))
      (λ (e : edge_at f k at target ≡ edge_at f d 0 last). inr (ap (λ (y : Edge). y.from) e))
      (two_counted (λ (e : Edge). b == e.to) (edges_of f) x.guard.into_beginning (edge_at f a 1 x.asked.other)
      (edge_at f d 0 last) (edge_at f k at target) (λ e. asks_allocates (ap (λ (y : Edge). y.from) e))
      (edge_listed f a x.asked.asking 1 x.asked.other x.asked.got
      (ap (λ (t : Terminator). slice_get (targets t) 1) x.asked.branch)) (itself b)
      (edge_listed f d x.guard.allocating 0 last x.guard.got_allocating
      (ap (λ (t : Terminator). slice_get (targets t) 0) x.guard.allocator.jumps))
      (ap (λ (n : ℕ). b == n) x.guard.allocator.leads ∙ itself b)
      (edge_listed f k c at target got there) (ap (λ (n : ℕ). b == n) to ∙ itself b))

  -- ---- they are entered over these edges alone

  into_allocates : (block label : ℕ) → HasEdge g block label → position_of g label ≡ spot f d → block ≡ spot f a
  into_allocates = into_single f named d a x.asked.asking 0 x.asked.one x.guard.into_allocating x.asked.got
      (ap (λ (t : Terminator). slice_get (targets t) 0) x.asked.branch) refl
      (λ i e there to. begins_allocates (sym (ap (λ (y : OwnEdge). position_of f y.target)
      (only_edge (edges_of_block f a x.asked.asking) asking_edge asking_edges i e there).1) ∙ to))

  into_after : (block label : ℕ) → HasEdge g block label → position_of g label ≡ spot f d + 1 → block ≡ spot f d
  into_after = into_edge f named d x.guard.allocating 0 last_edge x.guard.got_allocating last_there

  into_beside : (block label : ℕ) → HasEdge g block label → position_of g label ≡ spot f a + 1 → block ≡ spot f a
  into_beside = into_edge f named a x.asked.asking 0 asking_edge x.asked.got asking_there

  into_begins : (block label : ℕ) → HasEdge g block label → position_of g label ≡ spot f b
      → (block ≡ spot f d + 1) ⊎ (block ≡ spot f a + 1)
  into_begins block label edge leads = ⊎_elim own between (comes_from f named block label edge)
    where
      own : ComesFromOwn f named block label → (block ≡ spot f d + 1) ⊎ (block ≡ spot f a + 1)
      own o = ⊎_elim
          (λ (l : LandsOwn f named o.index o.own label o.home.target).
          absurd (false≢true (sym l.unflagged ∙ begins_flag o.home.target
          (spots_apart f (position_of f o.home.target) b (sym l.leads ∙ leads)))))
          (λ (l : LandsBetween f named o.index o.own label o.home.target).
          absurd (spots_no_edge f named o.index o.own l.position l.edge o.got l.there b (sym leads ∙ l.leads)))
          (lands f named o.index o.own o.at label o.got o.home)

      between : ComesFromEdge f named block label → (block ≡ spot f d + 1) ⊎ (block ≡ spot f a + 1)
      between o =
          let to : position_of f o.edge.target ≡ b =
          spots_apart f (position_of f o.edge.target) b (sym o.leads ∙ leads) in
          let z = listed_at (targets o.own.term) o.edge.target o.listed in
          ⊎_elim
          (λ (from : o.index ≡ a).
          let own : o.own ≡ x.asked.asking = same_own f named o.index a o.own x.asked.asking o.got x.asked.got from in
          let one = only_edge (edges_of_block f o.index o.own) asking_edge
          ((λ i. edges_of_block f (from i) (own i)) ∙ asking_edges) o.position o.edge o.there in
          inr (o.stands ∙ (λ i. spot f (from i) + suc (one.0 i))))
          (λ (from : o.index ≡ d).
          let own : o.own ≡ x.guard.allocating =
          same_own f named o.index d o.own x.guard.allocating o.got x.guard.got_allocating from in
          let one = only_edge (edges_of_block f o.index o.own) last_edge
          ((λ i. edges_of_block f (from i) (own i)) ∙ last_edges) o.position o.edge o.there in
          inl (o.stands ∙ (λ i. spot f (from i) + suc (one.0 i))))
          (into_two o.index o.own z.0 o.edge.target o.got z.1 to)

  -- ---- so it asks

  pub asks_blocks : AsksBlocks g blocks
  asks_blocks = record {
    on = Operand.Local x.asked.need;
    branch = ends_at g (spot f a) (own_block f a x.asked.asking) (own_there f a x.asked.asking x.asked.got)
        ∙ ap AtTerm asking_term;
    to_allocator = position_moved f x.asked.one low_one;
    to_beside = position_edge f named a x.asked.asking 0 asking_edge x.asked.got asking_there;
    jumps = jumps;
    joins = joins;
    meets = meets;
    apart_after = λ e. let up : spot f d + 1 ≡ spot f d = e in omega (arith, up);
    apart_beside = λ e. spots_no_edge f named a x.asked.asking 0 asking_edge x.asked.got asking_there d (sym e);
    apart_sides = λ e. asks_allocates (edge_spots f a d x.asked.asking x.guard.allocating 0 0 asking_edge last_edge
        x.asked.got asking_there x.guard.got_allocating last_there e);
    apart_begins = λ e. begins_allocates (spots_apart f b d e);
    apart_last = λ e. spots_no_edge f named d x.guard.allocating 0 last_edge x.guard.got_allocating last_there b e;
    into_allocates = into_allocates;
    into_after = into_after;
    into_beside = into_beside;
    into_begins = into_begins;
  }

  pub asks_on : asks_blocks.on ≡ Operand.Local x.asked.need
  unfolding asks_blocks
  asks_on = refl

pub guard_blocks : (m : Module) (k : ℕ) (f : Function) → KeepsFunctionRules m k f → is_guarded f ≡ true
    → (a : AskingBlocks) × AsksBlocks (with_edge_blocks f) a
guard_blocks m k f rules guarded =
    let named = labels_known k f rules.tabled m rules.known in
    let once = own_label k f rules.definitions in
    let x = guarded_is f guarded in
    (blocks f named once x, asks_blocks f named once x)
