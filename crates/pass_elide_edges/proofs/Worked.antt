-- The worked module keeps what ends of its blocks ask.
use Rattle.std.proofs.Common.{◌≡◌, ◌⊎◌, ◌+◌, inl, inr, ℕ, zero, suc, Bool, true, false, List, [], ◌∷◌, length, refl, sym, ap, ◌∙◌, subst, arith, ◌==◌, ◌&&◌, ◌||◌}
use Rattle.std.specs.List.{list_all}
use Rattle.std.proofs.lemmas.Bool.{ltb-true}
use Rattle.std.specs.Prelude.{None, Some, if◌then◌else◌, not, slice_get}
use Rattle.pass_elide_edges.specs.Keeping.{Asked, EntersAlone, HasEdge, KeepsAsking, KeepsEnds, KeepsShape, LeavesNone, LooksAt, MeetsPlain, Plain, SetsKnown, ShapesEnds, TakesBlock, TakesPlain}
use Rattle.pass_elide_proof.proofs.EdgeEntered.{same_term, term_end}
use Rattle.pass_elide_proof.proofs.Facts.{not_both, some_none}
use Rattle.pass_elide_proof.proofs.PlacingChecked.{or_other, unset}
use Rattle.pass_elide_proof.proofs.PlacingFacts.{by_truth}
use Rattle.pass_elide_proof.proofs.PlacingWorked.{shape_none, worked_shape}
use Rattle.pass_elide_proof.specs.Edges.{chosen_by, label_from, phis_at}
use Rattle.pass_elide_proof.specs.Elision.{function_in, no_shape}
use Rattle.pass_elide_proof.specs.Places.{instrs_of}
use Rattle.pass_elide_proof.specs.Shapes.{AsksForFrame, JumpsTo}
use Rattle.pass_elide_proof.specs.Worked.{a_caller, aside_of, the_elision, the_shape, waits_at}
use Rattle.pass_elide_proof.proofs.pass_proofs.ir_laws.facts.Truth.{and_first, and_second, equal_numbers, itself}
use Rattle.pass_elide_proof.specs.pass_proofs.flow_solver.Paths.{IsListed}
use Rattle.pass_elide_proof.specs.pass_proofs.ir_model.Names.{position_of}
use Rattle.pass_elide_proof.specs.pass_proofs.ir_model.Ty.{int, ptr}
use Rattle.pass_elide_proof.specs.pass_proofs.ir_model.declared.instr.Phi.{Phi}
use Rattle.pass_elide_proof.specs.pass_proofs.ir_model.declared.instr.Terminator.{Terminator}
use Rattle.pass_elide_proof.specs.pass_proofs.ir_model.declared.module.Block.{Block}
use Rattle.pass_elide_proof.specs.pass_proofs.ir_model.declared.module.Function.{Function}
use Rattle.pass_elide_proof.specs.pass_proofs.ir_model.declared.operand.Operand.{Operand}
use Rattle.pass_elide_proof.specs.pass_proofs.ir_paths.Paths.{targets}
use Rattle.pass_elide_proof.specs.pass_proofs.run_laws.changed.Changed.{Each}
use Rattle.pass_elide_proof.specs.pass_proofs.run_step.Step.{AtTerm, fetch, incoming_from}

-- ---- each edge of a function passes a test

abbrev each_edge : (ℕ → ℕ → Bool) → (block : ℕ) → List Block → Bool
each_edge test block [] = true
each_edge test block (b ∷ bs) = list_all (test block) (targets b.term) && each_edge test (suc block) bs

of_label : (test : ℕ → Bool) (ls : List ℕ) (label : ℕ) → list_all test ls ≡ true → IsListed label ls
    → test label ≡ true
of_label test [] label h e = absurd e
of_label test (l ∷ ls) label h (inl is) = ap test is ∙ and_first (test l) (list_all test ls) h
of_label test (l ∷ ls) label h (inr e) = of_label test ls label (and_second (test l) (list_all test ls) h) e

edge_in : (test : ℕ → ℕ → Bool) (from : ℕ) (bs : List Block) (k : ℕ) (b : Block) (label at : ℕ)
    → each_edge test from bs ≡ true → slice_get bs k ≡ Some b → IsListed label (targets b.term) → at ≡ from + k
    → test at label ≡ true
edge_in test from [] k b label at h there e is = absurd (cc)
edge_in test from (x ∷ xs) zero b label at h there e is =
    let same : x ≡ b = cc in
    let here : from ≡ at = omega (arith, is) in
    subst (λ (n : ℕ). test n label ≡ true) here
    (of_label (test from) (targets x.term) label
    (and_first (list_all (test from) (targets x.term)) (each_edge test (suc from) xs) h)
    (subst (λ (y : Block). IsListed label (targets y.term)) (sym same) e))
edge_in test from (x ∷ xs) (suc k) b label at h there e is =
    edge_in test (suc from) xs k b label at
    (and_second (list_all (test from) (targets x.term)) (each_edge test (suc from) xs) h) there e
    (omega (arith, is))

edge_tested : (test : ℕ → ℕ → Bool) (f : Function) (block label : ℕ) → each_edge test 0 f.blocks ≡ true
    → HasEdge f block label → test block label ≡ true
edge_tested test f block label h edge =
    let end = term_end f block (length (instrs_of f block)) edge.term edge.stands in
    edge_in test 0 f.blocks block end.own label block h end.there
    (subst (λ (y : Terminator). IsListed label (targets y)) (sym end.is) edge.leads) (omega arith)

-- ---- the coroutine

abbrev g : Function
g = function_in the_elision 0

waits_is : (block other : ℕ) → waits_at block ≡ Some other → (block ≡ 2) × (other ≡ 0)
waits_is block other is = by_truth (block == 2) there elsewhere
  where
    there : (block == 2) ≡ true → (block ≡ 2) × (other ≡ 0)
    there e =
        let same : Some 0 ≡ Some other
        = sym (ap (λ (b : Bool). if b then Some 0 else None) e) ∙ is in
        (equal_numbers block 2 e, cc)

    elsewhere : (block == 2) ≡ false → (block ≡ 2) × (other ≡ 0)
    elsewhere e = absurd (some_none (waits_at block) other is (ap (λ (b : Bool). if b then Some 0 else None) e))

aside_is : (block other : ℕ) → aside_of block ≡ Some other → (block ≡ 3) × (other ≡ 1)
aside_is block other is = by_truth (block == 3) there elsewhere
  where
    there : (block == 3) ≡ true → (block ≡ 3) × (other ≡ 1)
    there e =
        let same : Some 1 ≡ Some other
        = sym (ap (λ (b : Bool). if b then Some 1 else None) e) ∙ is in
        (equal_numbers block 3 e, cc)

    elsewhere : (block == 3) ≡ false → (block ≡ 3) × (other ≡ 1)
    elsewhere e = absurd (some_none (aside_of block) other is (ap (λ (b : Bool). if b then Some 1 else None) e))

-- no window has a point between its save and its suspend
leaves_none : (block label : ℕ) → LeavesNone g block label
leaves_none block label = refl

abbrev k : AsksForFrame g the_shape
k = worked_shape.asks

allocates : k.allocates ≡ 2
allocates = (waits_is k.allocates k.asks k.waits).0

asks : k.asks ≡ 0
asks = (waits_is k.allocates k.asks k.waits).1

after : k.after ≡ 3
after = (aside_is k.after k.beside k.aside).0

beside : k.beside ≡ 1
beside = (aside_is k.after k.beside k.aside).1

begins_by : (to : ℕ) → JumpsTo g 3 to → to ≡ 4
begins_by to j =
    let same : AtTerm (Terminator.Jump 5) ≡ AtTerm (Terminator.Jump j.label) = j.stands in
    let label : 5 ≡ j.label = cc in
    sym (ap (position_of g) label ∙ j.leads)

begins : k.begins ≡ 4
begins = begins_by k.begins (subst (λ (b : ℕ). JumpsTo g b k.begins) after k.joins)

block : k.block ≡ 7
block =
    let same : Some 7 ≡ Some k.block = sym (ap (λ (b : ℕ). the_shape.holds b 0) after) ∙ k.held_behind 0 in
    cc

memory : k.memory ≡ 8
memory =
    let same : Some 8 ≡ Some k.memory
    = sym (ap (λ (b : ℕ). the_shape.holds b 0) begins) ∙ k.held_until 0 (omega arith) in
    cc

-- ---- phis

abbrev memory_phi : Phi
memory_phi =
    record {
      result = 8;
      ty = ptr;
      incoming = record { value = Operand.Null; from = 18 }
          ∷ record { value = Operand.Local 7; from = 19 } ∷ [];
    }

abbrev value_phi : Phi
value_phi =
    record {
      result = 11;
      ty = int 32;
      incoming = record { value = Operand.Local 0; from = 20 }
          ∷ record { value = Operand.Local 29; from = 21 } ∷ [];
    }

memory_set : SetsKnown g the_shape memory_phi
memory_set = record {
  known = ltb-true 8 (length g.names) refl;
  answers = record { need = refl; freed = refl; tested = refl };
}

value_set : SetsKnown g the_shape value_phi
value_set = record {
  known = ltb-true 11 (length g.names) refl;
  answers = record { need = refl; freed = refl; tested = refl };
}

own_phis : (b : ℕ) → Each (SetsKnown g the_shape) (phis_at g b)
own_phis zero = tt
own_phis (suc zero) = tt
own_phis (suc (suc zero)) = tt
own_phis (suc (suc (suc zero))) = tt
own_phis (suc (suc (suc (suc zero)))) = (memory_set, tt)
own_phis (suc (suc (suc (suc (suc zero))))) = tt
own_phis (suc (suc (suc (suc (suc (suc zero)))))) = (value_set, tt)
own_phis (suc (suc (suc (suc (suc (suc (suc zero))))))) = tt
own_phis (suc (suc (suc (suc (suc (suc (suc (suc zero)))))))) = tt
own_phis (suc (suc (suc (suc (suc (suc (suc (suc (suc zero))))))))) = tt
own_phis (suc (suc (suc (suc (suc (suc (suc (suc (suc (suc zero)))))))))) = tt
own_phis (suc (suc (suc (suc (suc (suc (suc (suc (suc (suc (suc n))))))))))) = tt

-- ---- where the frame is asked for

abbrev after_ok : ℕ → ℕ → Bool
after_ok b label = not (position_of g label == 3) || (b == 2)

abbrev begins_ok : ℕ → ℕ → Bool
begins_ok b label = not (position_of g label == 4) || ((b == 3) || (b == 1))

same_is : (a b : ℕ) → a ≡ b → (a == b) ≡ true
same_is a b is = subst (λ (n : ℕ). (a == n) ≡ true) is (itself a)

into_after : (b label : ℕ) → HasEdge g b label → position_of g label ≡ 3 → b ≡ 2
into_after b label edge is =
    equal_numbers b 2
    (or_other (not (position_of g label == 3)) (b == 2) (edge_tested after_ok g b label refl edge)
    (ap not (same_is (position_of g label) 3 is)))

into_begins : (b label : ℕ) → HasEdge g b label → position_of g label ≡ 4 → (b ≡ 3) ⊎ (b ≡ 1)
into_begins b label edge is =
    on (b == 3) refl
    (or_other (not (position_of g label == 4)) ((b == 3) || (b == 1)) (edge_tested begins_ok g b label refl edge)
    (ap not (same_is (position_of g label) 4 is)))
  where
    on : (t : Bool) → (b == 3) ≡ t → (t || (b == 1)) ≡ true → (b ≡ 3) ⊎ (b ≡ 1)
    on true e h = inl (equal_numbers b 3 e)
    on false e h = inr (equal_numbers b 1 h)

first_phi : (j : ℕ) (p : Phi) → slice_get (phis_at g 4) j ≡ Some p → j ≡ 0
first_phi zero p is = refl
first_phi (suc j) p is = absurd (cc)

takes_block : (to from made held : ℕ) → to ≡ 4 → from ≡ 3 → made ≡ 8 → held ≡ 7 → (q : AsksForFrame g the_shape)
    → q.begins ≡ to → q.after ≡ from → q.memory ≡ made → q.block ≡ held → TakesBlock g the_shape q
takes_block to from made held is_to is_from is_made is_held q to' from' made' held' =
    let start : q.begins ≡ 4 = to' ∙ is_to in
    let behind : q.after ≡ 3 = from' ∙ is_from in
    let name : q.memory ≡ 8 = made' ∙ is_made in
    let old : q.block ≡ 7 = held' ∙ is_held in
    record {
      position = 0;
      phi = memory_phi;
      there = ap (λ (b : ℕ). slice_get (phis_at g b) 0) start;
      sets = sym name;
      takes = ap (λ (b : ℕ). incoming_from memory_phi.incoming (label_from g b)) behind ∙ ap Operand.Local (sym old);
      once = λ j p is sets. first_phi j p (ap (λ (b : ℕ). slice_get (phis_at g b) j) (sym start) ∙ is);
    }

worked_asking : KeepsAsking g the_shape k
worked_asking = record {
  stays_asks = leaves_none k.asks k.one;
  stays_passes = leaves_none k.asks k.other;
  stays_jumps = leaves_none k.allocates k.jumps.label;
  stays_joins = leaves_none k.after k.joins.label;
  stays_meets = leaves_none k.beside k.meets.label;
  phis = λ reached. subst (λ (b : ℕ). Each (MeetsPlain g the_shape k.after k.beside the_shape.made) (phis_at g b)) (sym begins)
      (λ differs. absurd (let no : true ≡ false = differs in cc), tt);
  block = takes_block 4 3 8 7 refl refl refl refl k begins after memory block;
  into_after = λ b label edge is. into_after b label edge (is ∙ after) ∙ sym allocates;
  into_begins = λ b label edge is. either_of b (into_begins b label edge (is ∙ begins));
  alone = ap aside_of allocates;
  unfreed = refl;
  unfreed_behind = refl;
}
  where
    either_of : (b : ℕ) → (b ≡ 3) ⊎ (b ≡ 1) → (b ≡ k.after) ⊎ (b ≡ k.beside)
    either_of b (inl is) = inl (is ∙ sym after)
    either_of b (inr is) = inr (is ∙ sym beside)

-- ---- terminators

chosen_there : (here term : Terminator) (v : ℕ) → AtTerm here ≡ AtTerm term → chosen_by term ≡ Operand.Local v
    → chosen_by here ≡ Operand.Local v
chosen_there here term v there is = ap chosen_by (same_term here term there) ∙ is

abbrev LooksThere : ℕ → Type 0
LooksThere b =
    (v : ℕ) (term : Terminator) → fetch g b (length (instrs_of g b)) ≡ AtTerm term
    → chosen_by term ≡ Operand.Local v → LooksAt g the_shape k b v

jump_looks : (b label : ℕ) → fetch g b (length (instrs_of g b)) ≡ AtTerm (Terminator.Jump label) → LooksThere b
jump_looks b label here v term there is =
    let none : Operand.None ≡ Operand.Local v = chosen_there (Terminator.Jump label) term v (sym here ∙ there) is in
    absurd (cc)

same_local : (v u : ℕ) → Operand.Local v ≡ Operand.Local u → v ≡ u
same_local v u e = cc

looks : (b : ℕ) → LooksThere b
looks zero v term there is =
    let name = same_local 3 v (chosen_there (Terminator.Branch (Operand.Local 3) 4 18) term v there is) in
    subst (λ (n : ℕ). LooksAt g the_shape k 0 n) name (Asked (sym asks) refl refl refl)
looks (suc zero) v term there is = jump_looks 1 5 refl v term there is
looks (suc (suc zero)) v term there is = jump_looks 2 19 refl v term there is
looks (suc (suc (suc zero))) v term there is = jump_looks 3 5 refl v term there is
looks (suc (suc (suc (suc zero)))) v term there is = jump_looks 4 20 refl v term there is
looks (suc (suc (suc (suc (suc zero))))) v term there is = jump_looks 5 10 refl v term there is
looks (suc (suc (suc (suc (suc (suc zero)))))) v term there is =
    let name = same_local 13 v (ap chosen_by (same_term _ term there) ∙ is) in
    subst (λ (n : ℕ). LooksAt g the_shape k 6 n) name
    (Plain (record { need = refl; made = refl; freed = refl; tested = refl; passed = refl }))
looks (suc (suc (suc (suc (suc (suc (suc zero))))))) v term there is = jump_looks 7 10 refl v term there is
looks (suc (suc (suc (suc (suc (suc (suc (suc zero)))))))) v term there is = jump_looks 8 15 refl v term there is
looks (suc (suc (suc (suc (suc (suc (suc (suc (suc zero))))))))) v term there is = jump_looks 9 14 refl v term there is
looks (suc (suc (suc (suc (suc (suc (suc (suc (suc (suc zero)))))))))) v term there is =
    let none : Operand.None ≡ Operand.Local v
    = chosen_there (Terminator.Ret (Some (record { ty = ptr; value = Operand.Local 9 }))) term v there is in
    absurd (cc)
looks (suc (suc (suc (suc (suc (suc (suc (suc (suc (suc (suc n))))))))))) v term there is = absurd (cc)

-- ---- what phis take

abbrev Takes : ℕ → Phi → Type 0
Takes from p =
    (v : ℕ) → incoming_from p.incoming (label_from g from) ≡ Operand.Local v → TakesPlain g the_shape k from p v

abbrev value_ok : ℕ → ℕ → Bool
value_ok b label = not (position_of g label == 6) || ((b == 5) || (b == 7))

into_value : (b label : ℕ) → HasEdge g b label → position_of g label ≡ 6 → (b ≡ 5) ⊎ (b ≡ 7)
into_value b label edge is =
    on (b == 5) refl
    (or_other (not (position_of g label == 6)) ((b == 5) || (b == 7)) (edge_tested value_ok g b label refl edge)
    (ap not (same_is (position_of g label) 6 is)))
  where
    on : (t : Bool) → (b == 5) ≡ t → (t || (b == 7)) ≡ true → (b ≡ 5) ⊎ (b ≡ 7)
    on true e h = inl (equal_numbers b 5 e)
    on false e h = inr (equal_numbers b 7 h)

memory_takes : (b : ℕ) → (b ≡ 3) ⊎ (b ≡ 1) → Takes b memory_phi
memory_takes b (inl is) v at =
    let name = same_local 7 v (ap (λ (n : ℕ). incoming_from memory_phi.incoming (label_from g n)) (sym is) ∙ at) in
    subst (λ (n : ℕ). TakesPlain g the_shape k b memory_phi n) name (record {
      need = refl;
      freed = refl;
      tested = refl;
      made = λ not_after not_beside unmade. absurd (not_after (is ∙ sym after));
      passed = λ others unpassed. refl;
    })
memory_takes b (inr is) v at =
    let null : Operand.Null ≡ Operand.Local v
    = ap (λ (n : ℕ). incoming_from memory_phi.incoming (label_from g n)) (sym is) ∙ at in
    absurd (cc)

value_takes : (b : ℕ) → (b ≡ 5) ⊎ (b ≡ 7) → Takes b value_phi
value_takes b (inl is) v at =
    let name = same_local 0 v (ap (λ (n : ℕ). incoming_from value_phi.incoming (label_from g n)) (sym is) ∙ at) in
    subst (λ (n : ℕ). TakesPlain g the_shape k b value_phi n) name (record {
      need = refl;
      freed = refl;
      tested = refl;
      made = λ not_after not_beside unmade. refl;
      passed = λ others unpassed. refl;
    })
value_takes b (inr is) v at =
    let name = same_local 29 v (ap (λ (n : ℕ). incoming_from value_phi.incoming (label_from g n)) (sym is) ∙ at) in
    subst (λ (n : ℕ). TakesPlain g the_shape k b value_phi n) name (record {
      need = refl;
      freed = refl;
      tested = refl;
      made = λ not_after not_beside unmade. refl;
      passed = λ others unpassed. refl;
    })

takes_at : (b label : ℕ) → HasEdge g b label → (to : ℕ) → position_of g label ≡ to → Each (Takes b) (phis_at g to)
takes_at b label edge zero is = tt
takes_at b label edge (suc zero) is = tt
takes_at b label edge (suc (suc zero)) is = tt
takes_at b label edge (suc (suc (suc zero))) is = tt
takes_at b label edge (suc (suc (suc (suc zero)))) is = (memory_takes b (into_begins b label edge is), tt)
takes_at b label edge (suc (suc (suc (suc (suc zero))))) is = tt
takes_at b label edge (suc (suc (suc (suc (suc (suc zero)))))) is = (value_takes b (into_value b label edge is), tt)
takes_at b label edge (suc (suc (suc (suc (suc (suc (suc zero))))))) is = tt
takes_at b label edge (suc (suc (suc (suc (suc (suc (suc (suc zero)))))))) is = tt
takes_at b label edge (suc (suc (suc (suc (suc (suc (suc (suc (suc zero))))))))) is = tt
takes_at b label edge (suc (suc (suc (suc (suc (suc (suc (suc (suc (suc zero)))))))))) is = tt
takes_at b label edge (suc (suc (suc (suc (suc (suc (suc (suc (suc (suc (suc n))))))))))) is = tt

-- ---- blocks of their own

abbrev entry_ok : ℕ → ℕ → Bool
entry_ok b label = not (position_of g label == 0)

abbrev beside_ok : ℕ → ℕ → Bool
beside_ok b label = not (position_of g label == 1) || (b == 0)

own_alone : EntersAlone g the_shape
own_alone = record {
  entry = λ b label edge is.
      not_both (position_of g label == 0) (same_is (position_of g label) 0 is)
      (unset (position_of g label == 0) (edge_tested entry_ok g b label refl edge));
  into_after = λ q b label edge is.
      into_after b label edge (is ∙ (aside_is q.after q.beside q.aside).0)
      ∙ sym (waits_is q.allocates q.asks q.waits).0;
  into_beside = λ q b label edge is.
      equal_numbers b 0
      (or_other (not (position_of g label == 1)) (b == 0) (edge_tested beside_ok g b label refl edge)
      (ap not (same_is (position_of g label) 1 (is ∙ (aside_is q.after q.beside q.aside).1))))
      ∙ sym (waits_is q.allocates q.asks q.waits).1;
  into_freed = λ q aside b label edge is. absurd (some_none None q.tests q.waits refl);
  into_tested = λ q aside b label edge is. absurd (some_none None q.tests q.waits refl);
  unfreed = λ q aside. refl;
  allocates = λ q. (refl, ap aside_of (waits_is q.allocates q.asks q.waits).0);
}

-- a function whose calls give no frame has no such blocks
none_alone : (f : Function) → ((b label : ℕ) → HasEdge f b label → position_of f label ≡ 0 → ⊥)
    → EntersAlone f no_shape
none_alone f entry = record {
  entry = entry;
  into_after = λ q b label edge is. absurd (some_none None q.asks q.waits refl);
  into_beside = λ q b label edge is. absurd (some_none None q.asks q.waits refl);
  into_freed = λ q aside b label edge is. absurd (some_none None q.tests q.waits refl);
  into_tested = λ q aside b label edge is. absurd (some_none None q.tests q.waits refl);
  unfreed = λ q aside. refl;
  allocates = λ q. (refl, refl);
}

no_edge : (func b label : ℕ) → HasEdge (function_in the_elision (suc func)) b label → ⊥
no_edge zero b label edge =
    let none : false ≡ true = edge_tested (λ n l. false) a_caller b label refl edge in
    absurd (cc)
no_edge (suc n) b label edge =
    let none : false ≡ true = edge_tested (λ m l. false) (function_in the_elision (suc (suc n))) b label refl edge in
    absurd (cc)

pub worked_alone : (func : ℕ) → EntersAlone (function_in the_elision func) (the_elision.shape func)
worked_alone zero = own_alone
worked_alone (suc n) =
    subst (EntersAlone (function_in the_elision (suc n))) (sym (shape_none n))
    (none_alone (function_in the_elision (suc n)) (λ b label edge is. no_edge n b label edge))

-- ---- the module

own_ends : KeepsShape g the_shape k
own_ends = record {
  asking = worked_asking;
  looks = λ b v term reached there is. looks b v term there is;
  takes = λ b label reached edge. takes_at b label edge (position_of g label) refl;
  frees = λ b tests is. absurd (some_none None tests is refl);
  asides = λ b other is. inl ((aside_is b other is).0 ∙ sym after);
}

caller_phis : (b : ℕ) → Each (SetsKnown a_caller no_shape) (phis_at a_caller b)
caller_phis zero = tt
caller_phis (suc b) = tt

pub worked_ends : KeepsEnds the_elision
worked_ends = record { phis = phis; shapes = shapes }
  where
    phis : (func b : ℕ) → Each (SetsKnown (function_in the_elision func) (the_elision.shape func))
        (phis_at (function_in the_elision func) b)
    phis zero b = own_phis b
    phis (suc zero) b = caller_phis b
    phis (suc (suc n)) b = tt

    shapes : (func : ℕ) → (the_elision.shape func ≡ no_shape) ⊎ ShapesEnds the_elision func
    shapes zero = inr (record { shape = worked_shape; ends = own_ends })
    shapes (suc n) = inl (shape_none n)
