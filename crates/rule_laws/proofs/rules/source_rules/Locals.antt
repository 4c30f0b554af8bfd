-- Where each local is defined once (rule N1), a value's name says by which part of the function it is made.
use Rattle.std.proofs.Common.{◌≡◌, inl, inr, ℕ, zero, suc, ◌+◌, ◌<◌, Bool, true, false, List, [], ◌∷◌, ◌++◌, length, refl, sym, ap, ◌∙◌, subst, append_assoc}
use Rattle.std.specs.Prelude.{Some, None, Option, map, option_to_list, slice_get, unwrap_or, option_map, ◌==◌, ◌||◌, if◌then◌else◌}
use Rattle.ir_laws.specs.ir_base.declared.outcome.Place.{Place}
use Rattle.rule_uses.specs.Undefined.{params_of}
use Rattle.ir_laws.proofs.facts.Truth.{equal_numbers, itself}
use Rattle.rule_laws.proofs.rules.renamed.Uses.{result_spelt}
use Rattle.ir_laws.proofs.paths.renamed.Uses.{stands_in}
use Rattle.rule_laws.specs.rules.source_rules.Named.{HasTabledLocals}
use Rattle.ir_laws.specs.flow_solver.Paths.{IsListed}
use Rattle.ir_parts.specs.Contents.{part_locals, result_of as part_result}
use Rattle.ir_parts.specs.Locals.{is_head, local_at, locals_at, locals_in, locals_of}
use Rattle.ir_parts.specs.Parts.{Part, Ending, block_parts, blocks_parts, instr_parts, instr_place, parts_of, phi_parts}
use Rattle.ir_parts.specs.declared.defined.Definition.{Definition}
use Rattle.ir_laws.specs.ir_model.Names.{first_where, position_of}
use Rattle.ir_laws.specs.ir_model.declared.instr.Instr.{Instr}
use Rattle.ir_laws.specs.ir_model.declared.instr.Phi.{Phi}
use Rattle.ir_laws.specs.ir_model.declared.module.Block.{Block}
use Rattle.ir_laws.specs.ir_model.declared.module.Function.{Function}
use Rattle.ir_laws.specs.ir_paths.Windows.{instr_at}
use Rattle.ir_laws.specs.ir_paths.declared.point.Point.{Point}
use Rattle.rule_names.specs.Definitions.{first_twice, has_number}
use Rattle.ir_laws.specs.run_laws.changed.Changed.{result_of}
use Rattle.ir_laws.proofs.facts.Lists.{phi_names, row_of}
use Rattle.ir_laws.proofs.paths.source_rules.Locals.{Apart, in_row, listed_left, listed_right}

apart_left : (xs ys : List ℕ) → Apart (xs ++ ys) → Apart xs
apart_left [] ys h = tt
apart_left (x ∷ xs) ys h = (λ k. h.0 (listed_left x xs ys k), apart_left xs ys h.1)

apart_right : (xs ys : List ℕ) → Apart (xs ++ ys) → Apart ys
apart_right [] ys h = h
apart_right (x ∷ xs) ys h = apart_right xs ys h.1

apart_both : (xs ys : List ℕ) (n : ℕ) → Apart (xs ++ ys) → IsListed n xs → IsListed n ys → ⊥
apart_both [] ys n h a b = absurd a
apart_both (x ∷ xs) ys n h (inl e) b = h.0 (listed_right x xs ys (subst (λ (k : ℕ). IsListed k ys) e b))
apart_both (x ∷ xs) ys n h (inr a) b = apart_both xs ys n h.1 a b

row_append : {A : Type 0} (g : A → List ℕ) (xs ys : List A) → row_of g (xs ++ ys) ≡ row_of g xs ++ row_of g ys
row_append g [] ys = refl
row_append g (x ∷ xs) ys = ap (λ l. g x ++ l) (row_append g xs ys) ∙ sym (append_assoc (g x) (row_of g xs) (row_of g ys))

apart_at : {A : Type 0} (g : A → List ℕ) (xs : List A) (k : ℕ) (a : A) → slice_get xs k ≡ Some a → Apart (row_of g xs) → Apart (g a)
apart_at g [] k a e h = absurd (cc)
apart_at g (x ∷ xs) zero a e h = let is_one : x ≡ a = cc in subst (λ y. Apart (g y)) is_one (apart_left (g x) (row_of g xs) h)
apart_at g (x ∷ xs) (suc k) a e h = apart_at g xs k a e (apart_right (g x) (row_of g xs) h)

same_place : {A : Type 0} (g : A → List ℕ) (xs : List A) → Apart (row_of g xs) → (n j k : ℕ) (a b : A) → slice_get xs j ≡ Some a → slice_get xs k ≡ Some b → IsListed n (g a) → IsListed n (g b) → j ≡ k
same_place g [] h n j k a b d e x y = absurd (cc)
same_place g (z ∷ xs) h n zero zero a b d e x y = refl
same_place g (z ∷ xs) h n zero (suc k) a b d e x y = let is_one : a ≡ z = cc in absurd (apart_both (g z) (row_of g xs) n h (subst (λ w. IsListed n (g w)) is_one x) (in_row g xs k n b e y))
same_place g (z ∷ xs) h n (suc j) zero a b d e x y = let is_one : b ≡ z = cc in absurd (apart_both (g z) (row_of g xs) n h (subst (λ w. IsListed n (g w)) is_one y) (in_row g xs j n a d x))
same_place g (z ∷ xs) h n (suc j) (suc k) a b d e x y = ap suc (same_place g xs (apart_right (g z) (row_of g xs) h) n j k a b d e x y)

-- ---- the definitions

abbrev pub name_of : Definition → ℕ
name_of d = d.name

not_before : (ns : List ℕ) (ds : List Definition) → first_twice ns ds ≡ None → (n : ℕ) → IsListed n (map name_of ds) → has_number ns n ≡ false
not_before ns [] e n h = absurd h
not_before ns (d ∷ ds) e n h = on (has_number ns d.name) refl e h (not_before (d.name ∷ ns) ds)
  where
    neither : (a b : Bool) → (a || b) ≡ false → b ≡ false
    neither true b k = absurd (cc)
    neither false b k = k

    on : (b : Bool) → has_number ns d.name ≡ b → (if b then Some d.place else first_twice (d.name ∷ ns) ds) ≡ None → IsListed n (d.name ∷ map name_of ds) → (first_twice (d.name ∷ ns) ds ≡ None → (k : ℕ) → IsListed k (map name_of ds) → has_number (d.name ∷ ns) k ≡ false) → has_number ns n ≡ false
    on true is k l rest = absurd (cc)
    on false is k (inl same) rest = ap (has_number ns) same ∙ is
    on false is k (inr l) rest = neither (d.name == n) (has_number ns n) (rest k n l)

apart_names : (ns : List ℕ) (ds : List Definition) → first_twice ns ds ≡ None → Apart (map name_of ds)
apart_names ns [] e = tt
apart_names ns (d ∷ ds) e = on (has_number ns d.name) e (apart_names (d.name ∷ ns) ds)
  where
    not_first : first_twice (d.name ∷ ns) ds ≡ None → IsListed d.name (map name_of ds) → ⊥
    not_first k l =
        let t : true ≡ false = sym (ap (λ (b : Bool). b || has_number ns d.name) (itself d.name)) ∙ not_before (d.name ∷ ns) ds k d.name l in
        absurd (cc)

    on : (b : Bool) → (if b then Some d.place else first_twice (d.name ∷ ns) ds) ≡ None → (first_twice (d.name ∷ ns) ds ≡ None → Apart (map name_of ds)) → Apart (d.name ∷ map name_of ds)
    on true k rest = absurd (cc)
    on false k rest = (not_first k, rest k)

-- ---- the names of a function's parts

abbrev pub names_at : Place × Part → List ℕ
names_at x = part_locals x.1

of_locals : (p : Place) (b : Bool) (ns : List ℕ) → map name_of (map (local_at p b) ns) ≡ ns
of_locals p b [] = refl
of_locals p b (n ∷ ns) = ap (λ l. n ∷ l) (of_locals p b ns)

map_append : (xs ys : List Definition) → map name_of (xs ++ ys) ≡ map name_of xs ++ map name_of ys
map_append [] ys = refl
map_append (x ∷ xs) ys = ap (λ l. x.name ∷ l) (map_append xs ys)

names_in : (xs : List (Place × Part)) → map name_of (locals_in xs) ≡ row_of names_at xs
names_in [] = refl
names_in (x ∷ xs) =
    map_append (locals_at x) (locals_in xs)
    ∙ ap (λ l. l ++ map name_of (locals_in xs)) (of_locals x.0 (is_head x.1) (part_locals x.1))
    ∙ ap (λ l. part_locals x.1 ++ l) (names_in xs)

abbrev pub made_by : Instr → List ℕ
made_by i = option_to_list (part_result i)

abbrev pub block_names : Block → List ℕ
block_names b = b.label ∷ (phi_names b.phis ++ row_of made_by b.instrs)

of_phis : (func block at : ℕ) (ps : List Phi) → row_of names_at (phi_parts func block at ps) ≡ phi_names ps
of_phis func block at [] = refl
of_phis func block at (p ∷ ps) = ap (λ l. p.result ∷ l) (of_phis func block (at + 1) ps)

of_instrs : (func block at : ℕ) (is : List Instr) → row_of names_at (instr_parts func block at is) ≡ row_of made_by is
of_instrs func block at [] = refl
of_instrs func block at (i ∷ is) = ap (λ l. made_by i ++ l) (of_instrs func block (at + 1) is)

append_none : (xs : List ℕ) → xs ++ [] ≡ xs
append_none [] = refl
append_none (x ∷ xs) = ap (λ l. x ∷ l) (append_none xs)

of_block : (func block : ℕ) (b : Block) → row_of names_at (block_parts func block b) ≡ block_names b
unfolding block_parts
of_block func block b =
    let phis : List (Place × Part) = phi_parts func block 0 b.phis in
    let instrs : List (Place × Part) = instr_parts func block (length b.phis) b.instrs in
    let end : List (Place × Part) = (instr_place func block (length b.phis + length b.instrs), Ending b.term) ∷ [] in
    ap (λ l. b.label ∷ l)
    (row_append names_at phis (instrs ++ end)
    ∙ ap (λ l. l ++ row_of names_at (instrs ++ end)) (of_phis func block 0 b.phis)
    ∙ ap (λ l. phi_names b.phis ++ l) (row_append names_at instrs end ∙ append_none (row_of names_at instrs) ∙ of_instrs func block (length b.phis) b.instrs))

of_blocks : (func block : ℕ) (bs : List Block) → row_of names_at (blocks_parts func block bs) ≡ row_of block_names bs
of_blocks func block [] = refl
of_blocks func block (b ∷ bs) =
    row_append names_at (block_parts func block b) (blocks_parts func (block + 1) bs)
    ∙ ap (λ l. l ++ row_of names_at (blocks_parts func (block + 1) bs)) (of_block func block b)
    ∙ ap (λ l. block_names b ++ l) (of_blocks func (block + 1) bs)

-- ---- the first block that passes a test

pub record IsFound (test : Block → Bool) (bs : List Block) : Type 0 where
  pub at : ℕ
  pub found : first_where test bs ≡ Some at
  pub block : Block
  pub there : slice_get bs at ≡ Some block
  pub passes : test block ≡ true

pub found_in : (test : Block → Bool) (bs : List Block) (k : ℕ) (b : Block) → slice_get bs k ≡ Some b → test b ≡ true → IsFound test bs
found_in test [] k b e h = absurd (cc)
found_in test (c ∷ bs) k b e h = on (test c) refl k e (λ j d. found_in test bs j b d h)
  where
    on : (t : Bool) → test c ≡ t → (k : ℕ) → slice_get (c ∷ bs) k ≡ Some b → ((j : ℕ) → slice_get bs j ≡ Some b → IsFound test bs) → IsFound test (c ∷ bs)
    on true is k d rest = record { at = 0; found = ap (λ (t : Bool). if t then Some 0 else option_map suc (first_where test bs)) is; block = c; there = refl; passes = is }
    on false is zero d rest = let is_one : c ≡ b = cc in let t : true ≡ false = sym h ∙ ap test (sym is_one) ∙ is in absurd (cc)
    on false is (suc j) d rest =
        let x = rest j d in
        record { at = suc x.at; found = ap (λ (t : Bool). if t then Some 0 else option_map suc (first_where test bs)) is ∙ ap (option_map suc) x.found; block = x.block; there = x.there; passes = x.passes }

pub names_are : (func : ℕ) (f : Function) → map name_of (locals_of func f) ≡ params_of f ++ row_of block_names f.blocks
names_are func f = names_in (parts_of func f) ∙ ap (λ l. params_of f ++ l) (of_blocks func 0 f.blocks)

in_made : (i : Instr) (n : ℕ) → result_of i ≡ Some n → IsListed n (made_by i)
in_made i n e = subst (λ (o : Option ℕ). IsListed n (option_to_list o)) (sym (result_spelt i ∙ e)) (inl refl)

in_instrs : (b : Block) (at n : ℕ) (i : Instr) → slice_get b.instrs at ≡ Some i → result_of i ≡ Some n → IsListed n (row_of made_by b.instrs)
in_instrs b at n i there e = in_row made_by b.instrs at n i there (in_made i n e)

in_block : (b : Block) (at n : ℕ) (i : Instr) → slice_get b.instrs at ≡ Some i → result_of i ≡ Some n → IsListed n (block_names b)
in_block b at n i there e = inr (listed_right n (phi_names b.phis) (row_of made_by b.instrs) (in_instrs b at n i there e))

-- ---- names that are positions of the function's table

is_definition : (ds : List Definition) (n : ℕ) → IsListed n (map name_of ds) → (d : Definition) × (IsListed d ds × (d.name ≡ n))
is_definition [] n h = absurd h
is_definition (d ∷ ds) n (inl e) = (d, (inl refl, sym e))
is_definition (d ∷ ds) n (inr h) = let x = is_definition ds n h in (x.0, (inr x.1.0, x.1.1))

module _ (func : ℕ) (f : Function) (tabled : HasTabledLocals func f) where
  below : (n : ℕ) → IsListed n (row_of block_names f.blocks) → n < length f.names
  below n h =
      let x = is_definition (locals_of func f) n (subst (IsListed n) (sym (names_are func f)) (listed_right n (params_of f) (row_of block_names f.blocks) h)) in
      subst (λ (k : ℕ). k < length f.names) x.1.1 (tabled x.0 x.1.0)

  pub result_below : (p : Point) (i : Instr) (n : ℕ) → instr_at f p ≡ Some i → result_of i ≡ Some n → n < length f.names
  result_below p i n d e = let x = stands_in f p i d in below n (in_row block_names f.blocks p.block n x.block x.got (in_block x.block p.at n i x.stands e))

  pub phi_below : (block : ℕ) (b : Block) (n : ℕ) → slice_get f.blocks block ≡ Some b → IsListed n (phi_names b.phis) → n < length f.names
  phi_below block b n e h = below n (in_row block_names f.blocks block n b e (inr (listed_left n (phi_names b.phis) (row_of made_by b.instrs) h)))

module _ (func : ℕ) (f : Function) (once : first_twice [] (locals_of func f) ≡ None) where
  all_apart : Apart (params_of f ++ row_of block_names f.blocks)
  all_apart = subst Apart (names_are func f) (apart_names [] (locals_of func f) once)

  blocks_apart : Apart (row_of block_names f.blocks)
  blocks_apart = apart_right (params_of f) (row_of block_names f.blocks) all_apart

  -- two instructions that make one value are one
  pub same_result : (p q : Point) (i j : Instr) (n : ℕ) → instr_at f p ≡ Some i → instr_at f q ≡ Some j → result_of i ≡ Some n → result_of j ≡ Some n → p ≡ q
  same_result p q i j n d e a b =
      let x = stands_in f p i d in
      let y = stands_in f q j e in
      let blocks : p.block ≡ q.block = same_place block_names f.blocks blocks_apart n p.block q.block x.block y.block x.got y.got (in_block x.block p.at n i x.stands a) (in_block y.block q.at n j y.stands b) in
      let got : Some x.block ≡ Some y.block = sym x.got ∙ ap (slice_get f.blocks) blocks ∙ y.got in
      let is_one : x.block ≡ y.block = cc in
      let apart : Apart (row_of made_by y.block.instrs) = apart_right (phi_names y.block.phis) (row_of made_by y.block.instrs) (apart_at block_names f.blocks q.block y.block y.got blocks_apart).1 in
      let ats : p.at ≡ q.at = same_place made_by y.block.instrs apart n p.at q.at i j (ap (λ (c : Block). slice_get c.instrs p.at) (sym is_one) ∙ x.stands) y.stands (in_made i n a) (in_made j n b) in
      λ k. record { block = blocks k; at = ats k }

  pub same_instr : (p q : Point) (i j : Instr) (n : ℕ) → instr_at f p ≡ Some i → instr_at f q ≡ Some j → result_of i ≡ Some n → result_of j ≡ Some n → i ≡ j
  same_instr p q i j n d e a b =
      let both : Some i ≡ Some j = sym d ∙ ap (instr_at f) (same_result p q i j n d e a b) ∙ e in
      cc

  -- what an instruction makes is no parameter
  pub no_param : (p : Point) (i : Instr) (n : ℕ) → instr_at f p ≡ Some i → result_of i ≡ Some n → IsListed n (params_of f) → ⊥
  no_param p i n d e h =
      let x = stands_in f p i d in
      apart_both (params_of f) (row_of block_names f.blocks) n all_apart h (in_row block_names f.blocks p.block n x.block x.got (in_block x.block p.at n i x.stands e))

  -- nor what a phi makes
  pub no_phi : (block : ℕ) (b : Block) (p : Point) (i : Instr) (n : ℕ) → slice_get f.blocks block ≡ Some b → IsListed n (phi_names b.phis) → instr_at f p ≡ Some i → result_of i ≡ Some n → ⊥
  no_phi block b p i n there h d e =
      let x = stands_in f p i d in
      let blocks : block ≡ p.block = same_place block_names f.blocks blocks_apart n block p.block b x.block there x.got (inr (listed_left n (phi_names b.phis) (row_of made_by b.instrs) h)) (in_block x.block p.at n i x.stands e) in
      let got : Some b ≡ Some x.block = sym there ∙ ap (slice_get f.blocks) blocks ∙ x.got in
      let is_one : b ≡ x.block = cc in
      apart_both (phi_names x.block.phis) (row_of made_by x.block.instrs) n (apart_at block_names f.blocks p.block x.block x.got blocks_apart).1 (subst (λ (c : Block). IsListed n (phi_names c.phis)) is_one h) (in_instrs x.block p.at n i x.stands e)

  -- ---- labels

  pub own_label : (k : ℕ) (b : Block) → slice_get f.blocks k ≡ Some b → position_of f b.label ≡ k
  own_label k b e =
      let x = found_in (λ c. c.label == b.label) f.blocks k b e (itself b.label) in
      let at_is : x.at ≡ k = same_place block_names f.blocks blocks_apart b.label x.at k x.block b x.there e (inl (sym (equal_numbers x.block.label b.label x.passes))) (inl refl) in
      ap (λ (o : Option ℕ). unwrap_or o (length f.blocks)) x.found ∙ at_is
