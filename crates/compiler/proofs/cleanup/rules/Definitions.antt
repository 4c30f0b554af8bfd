-- The locals that are left: each stands once where it did, and what isn't gone is defined.
use Rattle.std.proofs.Common.{◌≡◌, ◌⊎◌, inl, inr, ℕ, ◌+◌, Bool, true, false, List, [], ◌∷◌, ◌++◌, length, refl, sym, ap, ◌∙◌, cond, subst, Option, Some, None}
use Rattle.std.proofs.Math.Bool.{and-false}
use Rattle.std.proofs.lemmas.Bool.{eq-eqb, eqb-true, or_left, or_right}
use Rattle.std.specs.List.{list_any}
use Rattle.std.specs.Prelude.{filter, map, not, option_to_list, ◌&&◌, ◌||◌, ◌==◌, if◌then◌else◌}
use Rattle.ir_base.specs.declared.outcome.Place.{Place}
use Rattle.pass_cleanup.specs.Cleanup.{clean_block, clean_function, is_kept_instr}
use Rattle.compiler.specs.cleanup.rules.Clean.{goes, goes_with, is_number}
use Rattle.pass_proofs.proofs.ir_parts.LocalsIn.{locals_in_append}
use Rattle.pass_proofs.specs.ir_parts.Contents.{result_of}
use Rattle.pass_proofs.specs.ir_parts.Locals.{local_at, locals_at, locals_in, locals_of}
use Rattle.pass_proofs.specs.ir_parts.Parts.{Ending, OfInstr, Part, Signature, block_parts, block_place, blocks_parts, function_place, instr_parts, instr_place, phi_parts}
use Rattle.pass_proofs.specs.ir_parts.declared.defined.Definition.{Definition}
use Rattle.ir_model.specs.declared.instr.Instr.{Instr}
use Rattle.ir_model.specs.declared.module.Block.{Block}
use Rattle.ir_model.specs.declared.module.Function.{Function}
use Rattle.pass_proofs.specs.rule_names.Definitions.{first_twice, has_number}
use Rattle.pass_proofs.specs.rule_names.Known.{is_defined, is_kind, is_label, is_value}

-- definitions of which some values go
pub data AreLeft (lost : ℕ → Bool) : List Definition → List Definition → Type 0 where
  NoneLeft : AreLeft lost [] []
  Stays : (d e : Definition) (ds es : List Definition) → e.name ≡ d.name → e.is_label ≡ d.is_label → AreLeft lost ds es → AreLeft lost (d ∷ ds) (e ∷ es)
  Goes : (d : Definition) (ds es : List Definition) → d.is_label ≡ false → lost d.name ≡ true → AreLeft lost ds es → AreLeft lost (d ∷ ds) es

module _ (lost : ℕ → Bool) where
  joined : (ds es ds2 es2 : List Definition) → AreLeft lost ds es → AreLeft lost ds2 es2 → AreLeft lost (ds ++ ds2) (es ++ es2)
  joined _ _ ds2 es2 NoneLeft k = k
  joined _ _ ds2 es2 (Stays d e ds es n l h) k = Stays d e (ds ++ ds2) (es ++ es2) n l (joined ds es ds2 es2 h k)
  joined _ _ ds2 es2 (Goes d ds es l g h) k = Goes d (ds ++ ds2) (es ++ es2) l g (joined ds es ds2 es2 h k)

  all_left : (ds : List Definition) → AreLeft lost ds ds
  all_left [] = NoneLeft
  all_left (d ∷ ds) = Stays d d ds ds refl refl (all_left ds)

  moved : (p q : Place) (b : Bool) (ns : List ℕ) → AreLeft lost (map (local_at p b) ns) (map (local_at q b) ns)
  moved p q b [] = NoneLeft
  moved p q b (n ∷ ns) = Stays (local_at p b n) (local_at q b n) (map (local_at p b) ns) (map (local_at q b) ns) refl refl (moved p q b ns)

  -- ---- each once

  number_after : (x y : ℕ) (a b : Bool) → x ≡ y → (n : ℕ) → (a ≡ true → b ≡ true) → ((x == n) || a) ≡ true → ((y == n) || b) ≡ true
  number_after x y a b e n h k = on (y == n) (ap (λ (z : ℕ). z == n) e)
    where
      on : (c : Bool) → (x == n) ≡ c → (c || b) ≡ true
      on true same = refl
      on false same = h (sym (ap (λ (c : Bool). c || a) same) ∙ k)

  not_among : (a b : Bool) → (b ≡ true → a ≡ true) → a ≡ false → b ≡ false
  not_among a true h e = let t : true ≡ false = sym (h refl) ∙ e in absurd (cc)
  not_among a false h e = refl

  first_out : (b : Bool) (p : Place) (o : Option Place) → (if b then Some p else o) ≡ None → (b ≡ false) × (o ≡ None)
  first_out true p o e = absurd (cc)
  first_out false p o e = (refl, e)

  pub once_left : (ds es : List Definition) → AreLeft lost ds es → (before now : List ℕ) → ((n : ℕ) → has_number now n ≡ true → has_number before n ≡ true) → first_twice before ds ≡ None → first_twice now es ≡ None
  once_left _ _ NoneLeft before now h e = refl
  once_left _ _ (Stays d x ds es n l more) before now h e =
      let parts = first_out (has_number before d.name) d.place (first_twice (d.name ∷ before) ds) e in
      let new : has_number now x.name ≡ false = ap (has_number now) n ∙ not_among (has_number before d.name) (has_number now d.name) (h d.name) parts.0 in
      ap (λ (b : Bool). if b then Some x.place else first_twice (x.name ∷ now) es) new
      ∙ once_left ds es more (d.name ∷ before) (x.name ∷ now) (λ v. number_after x.name d.name (has_number now v) (has_number before v) n v (h v)) parts.1
  once_left _ _ (Goes d ds es l g more) before now h e =
      once_left ds es more (d.name ∷ before) now (λ v k. or_right (d.name == v) (has_number before v) (h v k)) (first_out (has_number before d.name) d.place (first_twice (d.name ∷ before) ds) e).1

  -- ---- defined

  same_kind : (label : Bool) (d e : Definition) → e.is_label ≡ d.is_label → is_kind label e ≡ is_kind label d
  same_kind true d e h = h
  same_kind false d e h = ap not h

  other_number : (v w : ℕ) → lost v ≡ true → lost w ≡ false → (v == w) ≡ false
  other_number v w g s = on (v == w) refl
    where
      on : (b : Bool) → (v == w) ≡ b → b ≡ false
      on true e = let t : true ≡ false = sym g ∙ ap lost (eqb-true v w e) ∙ s in absurd (cc)
      on false e = refl

  gone_kind : (label : Bool) (d : Definition) (v : ℕ) → (label ≡ true) ⊎ (lost v ≡ false) → d.is_label ≡ false → lost d.name ≡ true → (is_kind label d && (d.name == v)) ≡ false
  gone_kind true d v s l g = ap (λ (b : Bool). b && (d.name == v)) l
  gone_kind false d v (inl s) l g = absurd (cc)
  gone_kind false d v (inr s) l g = ap (λ (b : Bool). is_kind false d && b) (other_number d.name v g s) ∙ and-false (is_kind false d)

  pub defined_left : (ds es : List Definition) → AreLeft lost ds es → (label : Bool) (v : ℕ) → (label ≡ true) ⊎ (lost v ≡ false) → is_defined label es v ≡ is_defined label ds v
  defined_left _ _ NoneLeft label v s = refl
  defined_left _ _ (Stays d e ds es n l h) label v s = λ i. (same_kind label d e l i && (n i == v)) || defined_left ds es h label v s i
  defined_left _ _ (Goes d ds es l g h) label v s = defined_left ds es h label v s ∙ sym (ap (λ (b : Bool). b || is_defined label ds v) (gone_kind label d v s l g))

-- ---- those of a function

module _ (k : ℕ) (f : Function) where
  result_goes : (block at : ℕ) (i : Instr) (r : Option ℕ) → ((v : ℕ) → is_number r v ≡ true → goes f v ≡ true) → (ds es : List Definition) → AreLeft (goes f) ds es → AreLeft (goes f) (map (local_at (instr_place k block at) false) (option_to_list r) ++ ds) es
  result_goes block at i None h ds es more = more
  result_goes block at i (Some v) h ds es more = Goes (local_at (instr_place k block at) false v) ds es refl (h v (eq-eqb v v refl)) more

  one_left : (b : Bool) (block at to : ℕ) (i : Instr) (is js : List Instr) → (b ≡ false → (v : ℕ) → is_number (result_of i) v ≡ true → goes f v ≡ true) → ((next : ℕ) → AreLeft (goes f) (locals_in (instr_parts k block (at + 1) is)) (locals_in (instr_parts k block next js))) → AreLeft (goes f) (locals_in (instr_parts k block at (i ∷ is))) (locals_in (instr_parts k block to (cond b (i ∷ js) js)))
  one_left true block at to i is js gone more =
      joined (goes f) (locals_at (instr_place k block at, OfInstr i)) (locals_at (instr_place k block to, OfInstr i)) (locals_in (instr_parts k block (at + 1) is)) (locals_in (instr_parts k block (to + 1) js))
      (moved (goes f) (instr_place k block at) (instr_place k block to) false (option_to_list (result_of i))) (more (to + 1))
  one_left false block at to i is js gone more =
      result_goes block at i (result_of i) (gone refl) (locals_in (instr_parts k block (at + 1) is)) (locals_in (instr_parts k block to js)) (more to)

  pub gone_in : (i : Instr) (is : List Instr) (v : ℕ) → is_kept_instr i ≡ false → is_number (result_of i) v ≡ true → list_any (goes_with v) (i ∷ is) ≡ true
  gone_in i is v e h = ap (λ (b : Bool). (not b && is_number (result_of i) v) || list_any (goes_with v) is) e ∙ ap (λ (b : Bool). b || list_any (goes_with v) is) h

  instrs_left : (block at to : ℕ) (is : List Instr) → ((v : ℕ) → list_any (goes_with v) is ≡ true → goes f v ≡ true) → AreLeft (goes f) (locals_in (instr_parts k block at is)) (locals_in (instr_parts k block to (filter is_kept_instr is)))
  instrs_left block at to [] h = NoneLeft
  instrs_left block at to (i ∷ is) h =
      one_left (is_kept_instr i) block at to i is (filter is_kept_instr is) (λ e v r. h v (gone_in i is v e r))
      (λ next. instrs_left block (at + 1) next is (λ v r. h v (or_right (goes_with v i) (list_any (goes_with v) is) r)))

  block_left : (block : ℕ) (b : Block) → ((v : ℕ) → list_any (goes_with v) b.instrs ≡ true → goes f v ≡ true) → AreLeft (goes f) (locals_in (block_parts k block b)) (locals_in (block_parts k block (clean_block b)))
  unfolding block_parts
  block_left block b h =
      let phis : List (Place × Part) = phi_parts k block 0 b.phis in
      let instrs : List (Place × Part) = instr_parts k block (length b.phis) b.instrs in
      let ending : List (Place × Part) = (instr_place k block (length b.phis + length b.instrs), Ending b.term) ∷ [] in
      let left : List (Place × Part) = instr_parts k block (length b.phis) (filter is_kept_instr b.instrs) in
      let last : List (Place × Part) = (instr_place k block (length b.phis + length (filter is_kept_instr b.instrs)), Ending b.term) ∷ [] in
      let inner : AreLeft (goes f) (locals_in (instrs ++ ending)) (locals_in (left ++ last)) =
      subst (λ ds. AreLeft (goes f) ds (locals_in (left ++ last))) (sym (locals_in_append instrs ending))
      (subst (λ es. AreLeft (goes f) (locals_in instrs ++ locals_in ending) es) (sym (locals_in_append left last))
      (joined (goes f) (locals_in instrs) (locals_in left) [] [] (instrs_left block (length b.phis) (length b.phis) b.instrs h) NoneLeft)) in
      let whole : AreLeft (goes f) (locals_in (phis ++ (instrs ++ ending))) (locals_in (phis ++ (left ++ last))) =
      subst (λ ds. AreLeft (goes f) ds (locals_in (phis ++ (left ++ last)))) (sym (locals_in_append phis (instrs ++ ending)))
      (subst (λ es. AreLeft (goes f) (locals_in phis ++ locals_in (instrs ++ ending)) es) (sym (locals_in_append phis (left ++ last)))
      (joined (goes f) (locals_in phis) (locals_in phis) (locals_in (instrs ++ ending)) (locals_in (left ++ last)) (all_left (goes f) (locals_in phis)) inner)) in
      Stays (local_at (block_place k block) true b.label) (local_at (block_place k block) true b.label) (locals_in (phis ++ (instrs ++ ending))) (locals_in (phis ++ (left ++ last))) refl refl whole

  blocks_left : (block : ℕ) (bs : List Block) → ((v : ℕ) → list_any (λ b. list_any (goes_with v) b.instrs) bs ≡ true → goes f v ≡ true) → AreLeft (goes f) (locals_in (blocks_parts k block bs)) (locals_in (blocks_parts k block (map clean_block bs)))
  blocks_left block [] h = NoneLeft
  blocks_left block (b ∷ bs) h =
      subst (λ ds. AreLeft (goes f) ds (locals_in (blocks_parts k block (map clean_block (b ∷ bs))))) (sym (locals_in_append (block_parts k block b) (blocks_parts k (block + 1) bs)))
      (subst (λ es. AreLeft (goes f) (locals_in (block_parts k block b) ++ locals_in (blocks_parts k (block + 1) bs)) es) (sym (locals_in_append (block_parts k block (clean_block b)) (blocks_parts k (block + 1) (map clean_block bs))))
      (joined (goes f) (locals_in (block_parts k block b)) (locals_in (block_parts k block (clean_block b))) (locals_in (blocks_parts k (block + 1) bs)) (locals_in (blocks_parts k (block + 1) (map clean_block bs)))
      (block_left block b (λ v r. h v (or_left (list_any (goes_with v) b.instrs) (list_any (λ c. list_any (goes_with v) c.instrs) bs) r)))
      (blocks_left (block + 1) bs (λ v r. h v (or_right (list_any (goes_with v) b.instrs) (list_any (λ c. list_any (goes_with v) c.instrs) bs) r)))))

  locals_left : AreLeft (goes f) (locals_of k f) (locals_of k (clean_function f))
  locals_left =
      joined (goes f) (locals_at (function_place k, Signature f)) (locals_at (function_place k, Signature f)) (locals_in (blocks_parts k 0 f.blocks)) (locals_in (blocks_parts k 0 (map clean_block f.blocks)))
      (all_left (goes f) (locals_at (function_place k, Signature f))) (blocks_left 0 f.blocks (λ v r. r))

  pub definitions_clean : first_twice [] (locals_of k f) ≡ None → first_twice [] (locals_of k (clean_function f)) ≡ None
  definitions_clean = once_left (goes f) (locals_of k f) (locals_of k (clean_function f)) locals_left [] [] (λ n e. e)

  pub label_same : (v : ℕ) → is_label k (clean_function f) v ≡ is_label k f v
  label_same v = defined_left (goes f) (locals_of k f) (locals_of k (clean_function f)) locals_left true v (inl refl)

  pub value_same : (v : ℕ) → goes f v ≡ false → is_value k (clean_function f) v ≡ is_value k f v
  value_same v stays = defined_left (goes f) (locals_of k f) (locals_of k (clean_function f)) locals_left false v (inr stays)
