-- Where the blocks of a function are when blocks are put on edges that leave windows.
use Rattle.std.proofs.Common.{◌≡◌, ℕ, zero, suc, ◌+◌, ◌-◌, ◌<◌, ◌≤◌, List, [], ◌∷◌, ◌++◌, length, map, None, Option, Some, option_map, refl, sym, ap, ◌∙◌, arith, ⊎_elim, ◌⊎◌, inl, inr}
use Rattle.std.proofs.lemmas.Bool.{cases_lt}
use Rattle.std.proofs.lemmas.List.{length-map}
use Rattle.std.proofs.lemmas.Option.{slice_get-map, slice_get_past, slice_get_within}
use Rattle.std.specs.Prelude.{slice_get}
use Rattle.ir_model.specs.declared.module.Block.{Block}
use Rattle.ir_model.specs.declared.module.Function.{Function}
use Rattle.pass_fetch_proof.proofs.ir_laws.facts.Lists.{get_behind, get_expanded, get_front, none_past, place_beyond, place_next, place_unique}
use Rattle.pass_fetch_proof.specs.ir_laws.facts.expanded.Expansion.{expanded, number_at, place_of}
use Rattle.pass_split.specs.pass_exits.ExitBlocks.{blocks_by, exit_block, exit_blocks, with_exit_blocks, with_exits}
use Rattle.pass_split.specs.pass_exits.Exits.{block_exits}
use Rattle.pass_split.specs.pass_exits.declared.exit.Exit.{Exit}

-- ---- blocks with their positions; what a block becomes has none

abbrev pub Placed : Type 0
Placed = ℕ × Block

abbrev pub with_places : ℕ → List Block → List Placed
with_places at [] = []
with_places at (b ∷ bs) = (at, b) ∷ with_places (at + 1) bs

abbrev pub unplaced : Block → Placed
unplaced b = (0, b)

abbrev pub block_of : Placed → Block
block_of x = x.1

get_placed : (at k : ℕ) (bs : List Block) → slice_get (with_places at bs) k ≡ option_map (λ b. (at + k, b)) (slice_get bs k)
get_placed at k [] = refl
get_placed at zero (b ∷ bs) = let z : at ≡ at + 0 = omega arith in ap (λ (n : ℕ). Some (n, b)) z
get_placed at (suc k) (b ∷ bs) = let z : at + 1 + k ≡ at + suc k = omega arith in get_placed (at + 1) k bs ∙ ap (λ (n : ℕ). option_map (λ (c : Block). (n, c)) (slice_get bs k)) z

pub length_placed : (at : ℕ) (bs : List Block) → length (with_places at bs) ≡ length bs
length_placed at [] = refl
length_placed at (b ∷ bs) = ap suc (length_placed (at + 1) bs)

blocks_joined : (xs : List Block) (ys : List Placed) → map block_of (map unplaced xs ++ ys) ≡ xs ++ map block_of ys
blocks_joined [] ys = refl
blocks_joined (x ∷ xs) ys = ap (λ (l : List Block). x ∷ l) (blocks_joined xs ys)

module _ (f : Function) where
  -- a block, and behind it those on its edges
  abbrev pub piece : ℕ → ℕ → Block → List Block
  piece at n b = with_exits f at n b ∷ exit_blocks n (block_exits f at b)

  abbrev pub grow : ℕ → Placed → List Placed
  grow n x = map unplaced (piece x.0 n x.1)

  abbrev pub after : ℕ → Placed → ℕ
  after n x = n + length (block_exits f x.0 x.1)

  pub as_expansion : (at n : ℕ) (bs : List Block) → blocks_by f at n bs ≡ map block_of (expanded grow after n (with_places at bs))
  as_expansion at n [] = refl
  as_expansion at n (b ∷ bs) =
      ap (λ (l : List Block). piece at n b ++ l) (as_expansion (at + 1) (n + length (block_exits f at b)) bs)
      ∙ sym (blocks_joined (piece at n b) (expanded grow after (after n (at, b)) (with_places (at + 1) bs)))

  abbrev pub spot : ℕ → ℕ
  spot k = place_of grow after k (length f.names) (with_places 0 f.blocks)

  -- the first label of the blocks on the edges of a block
  abbrev pub own_number : ℕ → ℕ
  own_number k = number_at grow after k (length f.names) (with_places 0 f.blocks)

  abbrev pub own_block : ℕ → Block → Block
  own_block k b = with_exits f k (own_number k) b

  abbrev pub own_piece : ℕ → Block → List Block
  own_piece k b = piece k (own_number k) b

  placed_there : (k : ℕ) (b : Block) → slice_get f.blocks k ≡ Some b → slice_get (with_places 0 f.blocks) k ≡ Some (k, b)
  placed_there k b e =
      let z : 0 + k ≡ k = omega arith in
      get_placed 0 k f.blocks ∙ ap (option_map (λ (c : Block). (0 + k, c))) e ∙ ap (λ (n : ℕ). Some (n, b)) z

  get_all : (at : ℕ) → slice_get (with_exit_blocks f).blocks at ≡ option_map block_of (slice_get (expanded grow after (length f.names) (with_places 0 f.blocks)) at)
  get_all at =
      ap (λ (bs : List Block). slice_get bs at) (as_expansion 0 (length f.names) f.blocks)
      ∙ slice_get-map block_of (expanded grow after (length f.names) (with_places 0 f.blocks)) at

  get_piece : (xs : List Block) (j : ℕ) → option_map block_of (slice_get (map unplaced xs) j) ≡ slice_get xs j
  get_piece [] j = refl
  get_piece (x ∷ xs) zero = refl
  get_piece (x ∷ xs) (suc j) = get_piece xs j

  -- ---- what stands at places

  pub piece_there : (k : ℕ) (b : Block) (j : ℕ) → slice_get f.blocks k ≡ Some b → j < length (own_piece k b) → slice_get (with_exit_blocks f).blocks (spot k + j) ≡ slice_get (own_piece k b) j
  piece_there k b j e lt =
      let len : length (map unplaced (own_piece k b)) ≡ length (own_piece k b) = length-map (own_piece k b) unplaced in
      get_all (spot k + j)
      ∙ ap (option_map block_of) (get_expanded grow after k (length f.names) (with_places 0 f.blocks) (k, b) j (placed_there k b e) (omega (arith, lt, len)))
      ∙ get_piece (own_piece k b) j

  pub own_there : (k : ℕ) (b : Block) → slice_get f.blocks k ≡ Some b → slice_get (with_exit_blocks f).blocks (spot k) ≡ Some (own_block k b)
  own_there k b e =
      let z : spot k ≡ spot k + 0 = omega arith in
      ap (slice_get (with_exit_blocks f).blocks) z ∙ piece_there k b 0 e (omega arith)

  pub none_there : (k : ℕ) → slice_get f.blocks k ≡ None → slice_get (with_exit_blocks f).blocks (spot k) ≡ None
  none_there k e =
      let len : length (with_places 0 f.blocks) ≡ length f.blocks = length_placed 0 f.blocks in
      let past : length f.blocks ≤ k = none_past f.blocks k e in
      get_all (spot k)
      ∙ ap (option_map block_of) (slice_get_past (expanded grow after (length f.names) (with_places 0 f.blocks)) (spot k) (place_beyond grow after k (length f.names) (with_places 0 f.blocks) (omega (arith, len, past))))

  exits_get : (n : ℕ) (es : List Exit) (i : ℕ) (e : Exit) → slice_get es i ≡ Some e → slice_get (exit_blocks n es) i ≡ Some (exit_block (n + i) e)
  exits_get n [] i e s = absurd (cc)
  exits_get n (x ∷ es) zero e s =
      let same : x ≡ e = cc in
      let z : n ≡ n + 0 = omega arith in
      λ k. Some (exit_block (z k) (same k))
  exits_get n (x ∷ es) (suc i) e s = let z : n + 1 + i ≡ n + suc i = omega arith in exits_get (n + 1) es i e s ∙ ap (λ (l : ℕ). Some (exit_block l e)) z

  length_exits : (n : ℕ) (es : List Exit) → length (exit_blocks n es) ≡ length es
  length_exits n [] = refl
  length_exits n (e ∷ es) = ap suc (length_exits (n + 1) es)

  pub exit_there : (k : ℕ) (b : Block) (i : ℕ) (e : Exit) → slice_get f.blocks k ≡ Some b → slice_get (block_exits f k b) i ≡ Some e → slice_get (with_exit_blocks f).blocks (spot k + suc i) ≡ Some (exit_block (own_number k + i) e)
  exit_there k b i e there got =
      let lt = slice_get_within (block_exits f k b) i e got in
      let len = length_exits (own_number k) (block_exits f k b) in
      piece_there k b (suc i) there (omega (arith, lt, len))
      ∙ exits_get (own_number k) (block_exits f k b) i e got

  -- ---- places apart

  rise : (j n : ℕ) (xs : List Placed) → place_of grow after j n xs < place_of grow after (suc j) n xs
  rise zero n [] = omega arith
  rise (suc j) n [] = omega arith
  rise zero n (x ∷ xs) = omega arith
  rise (suc j) n (x ∷ xs) = let again = rise j (after n x) xs in omega (arith, again)

  pub spots_apart : (k l : ℕ) → spot k ≡ spot l → k ≡ l
  spots_apart k l e =
      let a = rise k (length f.names) (with_places 0 f.blocks) in
      let b = rise l (length f.names) (with_places 0 f.blocks) in
      place_unique grow after k l (length f.names) (spot k) (with_places 0 f.blocks) (omega arith) (omega (arith, a)) (omega (arith, e)) (omega (arith, b, e))

  within : (k : ℕ) (b : Block) (i : ℕ) (e : Exit) → slice_get f.blocks k ≡ Some b → slice_get (block_exits f k b) i ≡ Some e → spot k + suc i < spot (suc k)
  within k b i e there got =
      let next = place_next grow after k (length f.names) (with_places 0 f.blocks) (k, b) (placed_there k b there) in
      let len : length (map unplaced (own_piece k b)) ≡ length (own_piece k b) = length-map (own_piece k b) unplaced in
      let lt = slice_get_within (block_exits f k b) i e got in
      let exits = length_exits (own_number k) (block_exits f k b) in
      omega (arith, next, len, lt, exits)

  pub exit_spots : (k l : ℕ) (b c : Block) (i j : ℕ) (e d : Exit) → slice_get f.blocks k ≡ Some b → slice_get (block_exits f k b) i ≡ Some e → slice_get f.blocks l ≡ Some c → slice_get (block_exits f l c) j ≡ Some d → spot k + suc i ≡ spot l + suc j → k ≡ l
  exit_spots k l b c i j e d there got here had same =
      let a = within k b i e there got in
      let z = within l c j d here had in
      place_unique grow after k l (length f.names) (spot k + suc i) (with_places 0 f.blocks) (omega arith) (omega (arith, a)) (omega (arith, same)) (omega (arith, z, same))

  pub spots_no_exit : (k : ℕ) (b : Block) (i : ℕ) (e : Exit) → slice_get f.blocks k ≡ Some b → slice_get (block_exits f k b) i ≡ Some e → (j : ℕ) → spot j ≡ spot k + suc i → ⊥
  spots_no_exit k b i e there got j same =
      let a = within k b i e there got in
      let z = rise j (length f.names) (with_places 0 f.blocks) in
      let one : k ≡ j = place_unique grow after k j (length f.names) (spot k + suc i) (with_places 0 f.blocks) (omega arith) (omega (arith, a)) (omega (arith, same)) (omega (arith, z, same)) in
      let back : spot k ≡ spot j = ap spot one in
      omega (arith, same, back)

-- ---- what stands anywhere

record IsOf {A : Type 0} (grow : ℕ → A → List A) (after : ℕ → A → ℕ) (n : ℕ) (xs : List A) (at : ℕ) (c : A) : Type 0 where
  index : ℕ
  element : A
  got : slice_get xs index ≡ Some element
  offset : ℕ
  within_it : slice_get (grow (number_at grow after index n xs) element) offset ≡ Some c
  stands : at ≡ place_of grow after index n xs + offset

expanded_home : {A : Type 0} (grow : ℕ → A → List A) (after : ℕ → A → ℕ) (n : ℕ) (xs : List A) (at : ℕ) (c : A) → slice_get (expanded grow after n xs) at ≡ Some c → IsOf grow after n xs at c
expanded_home grow after n [] at c e = absurd (cc)
expanded_home {A} grow after n (x ∷ xs) at c e =
    let front : List A = grow n x in
    let rest : List A = expanded grow after (after n x) xs in
    ⊎_elim
    (λ (lt : at < length front). let z : at ≡ 0 + at = omega arith in record { index = 0; element = x; got = refl; offset = at; within_it = sym (get_front front rest at lt) ∙ e; stands = z })
    (λ (ge : length front ≤ at).
    let j : ℕ = at - length front in
    let same : length front + j ≡ at = omega (arith, ge) in
    let y = expanded_home grow after (after n x) xs j c (sym (get_behind front rest j) ∙ ap (slice_get (front ++ rest)) same ∙ e) in
    let s = y.stands in
    let z : at ≡ length front + place_of grow after y.index (after n x) xs + y.offset = omega (arith, same, s) in
    record { index = suc y.index; element = y.element; got = y.got; offset = y.offset; within_it = y.within_it; stands = z })
    (cases_lt at (length front))

module _ (f : Function) where
  -- a block of the function, at the place to which it is moved
  pub record IsOwn (at : ℕ) (c : Block) : Type 0 where
    pub index : ℕ
    pub block : Block
    pub got : slice_get f.blocks index ≡ Some block
    pub stands : at ≡ spot f index
    pub is : c ≡ own_block f index block

  -- the block on an edge
  pub record IsExit (at : ℕ) (c : Block) : Type 0 where
    pub index : ℕ
    pub block : Block
    pub got : slice_get f.blocks index ≡ Some block
    pub position : ℕ
    pub exit : Exit
    pub there : slice_get (block_exits f index block) position ≡ Some exit
    pub stands : at ≡ spot f index + suc position
    pub is : c ≡ exit_block (own_number f index + position) exit

  placed_home : (k : ℕ) (x : Placed) → slice_get (with_places 0 f.blocks) k ≡ Some x → (x.0 ≡ k) × (slice_get f.blocks k ≡ Some x.1)
  placed_home k x e = on (slice_get f.blocks k) refl (sym (get_placed 0 k f.blocks) ∙ e)
    where
      on : (o : Option Block) → slice_get f.blocks k ≡ o → option_map (λ (b : Block). (0 + k, b)) o ≡ Some x → (x.0 ≡ k) × (slice_get f.blocks k ≡ Some x.1)
      on None d s = absurd (cc)
      on (Some b) d s =
          let same : (0 + k, b) ≡ x = cc in
          let z : 0 + k ≡ k = omega arith in
          (sym (ap (λ (y : Placed). y.0) same) ∙ z, d ∙ ap (λ (y : Placed). Some y.1) same)

  exits_home : (n : ℕ) (es : List Exit) (i : ℕ) (c : Block) → slice_get (exit_blocks n es) i ≡ Some c → (e : Exit) × ((slice_get es i ≡ Some e) × (c ≡ exit_block (n + i) e))
  exits_home n [] i c s = absurd (cc)
  exits_home n (x ∷ es) zero c s =
      let same : exit_block n x ≡ c = cc in
      let z : n ≡ n + 0 = omega arith in
      (x, (refl, sym same ∙ ap (λ (l : ℕ). exit_block l x) z))
  exits_home n (x ∷ es) (suc i) c s =
      let again = exits_home (n + 1) es i c s in
      let z : n + 1 + i ≡ n + suc i = omega arith in
      (again.0, (again.1.0, again.1.1 ∙ ap (λ (l : ℕ). exit_block l again.0) z))

  in_piece : (k : ℕ) (b : Block) (at j : ℕ) (c : Block) → slice_get f.blocks k ≡ Some b → slice_get (own_piece f k b) j ≡ Some c → at ≡ spot f k + j → IsOwn at c ⊎ IsExit at c
  in_piece k b at zero c there e same =
      let is : own_block f k b ≡ c = cc in
      let z : at ≡ spot f k = omega (arith, same) in
      inl (record { index = k; block = b; got = there; stands = z; is = sym is })
  in_piece k b at (suc j) c there e same =
      let x = exits_home (own_number f k) (block_exits f k b) j c e in
      inr (record { index = k; block = b; got = there; position = j; exit = x.0; there = x.1.0; stands = same; is = x.1.1 })

  unplaced_home : (xs : List Block) (j : ℕ) (x : Placed) → slice_get (map unplaced xs) j ≡ Some x → slice_get xs j ≡ Some x.1
  unplaced_home xs j x e = sym (get_piece f xs j) ∙ ap (option_map block_of) e

  pub home : (at : ℕ) (c : Block) → slice_get (with_exit_blocks f).blocks at ≡ Some c → IsOwn at c ⊎ IsExit at c
  home at c e = on (slice_get (expanded (grow f) (after f) (length f.names) (with_places 0 f.blocks)) at) refl (sym (get_all f at) ∙ e)
    where
      on : (o : Option Placed) → slice_get (expanded (grow f) (after f) (length f.names) (with_places 0 f.blocks)) at ≡ o → option_map block_of o ≡ Some c → IsOwn at c ⊎ IsExit at c
      on None d s = absurd (cc)
      on (Some x) d s =
          let y = expanded_home (grow f) (after f) (length f.names) (with_places 0 f.blocks) at x d in
          let z = placed_home y.index y.element y.got in
          let is : x.1 ≡ c = cc in
          let stood : slice_get (piece f y.element.0 (own_number f y.index) y.element.1) y.offset ≡ Some x.1 = unplaced_home (piece f y.element.0 (own_number f y.index) y.element.1) y.offset x y.within_it in
          in_piece y.index y.element.1 at y.offset c z.1
          (ap (λ (n : ℕ). slice_get (piece f n (own_number f y.index) y.element.1) y.offset) (sym z.0) ∙ stood ∙ ap (λ (b : Block). Some b) is)
          y.stands
