-- Where the instructions that pass a test are when blocks are put on edges that leave windows.
use Rattle.std.proofs.Common.{◌≡◌, ℕ, suc, ◌+◌, Bool, true, false, List, [], ◌∷◌, ◌++◌, length, refl, sym, ap, ◌∙◌, arith}
use Rattle.std.proofs.lemmas.List.{map-append}
use Rattle.std.proofs.lemmas.Option.{slice_get-map}
use Rattle.std.specs.List.{list_any}
use Rattle.std.specs.Prelude.{Some, None, Option, map, option_and_then, option_map, slice_get, if◌then◌else◌, ◌||◌}
use Rattle.pass_fetch_proof.proofs.ir_laws.facts.Lists.{map_map, map_same}
use Rattle.pass_fetch_proof.proofs.edges.paths.Points.{shift_in}
use Rattle.pass_fetch_proof.specs.ir_laws.facts.expanded.Expansion.{place_of}
use Rattle.pass_fetch_proof.specs.run_framed.Framed.{begin_name}
use Rattle.ir_model.specs.declared.instr.Instr.{Instr}
use Rattle.ir_model.specs.declared.module.Block.{Block}
use Rattle.ir_model.specs.declared.module.Function.{Function}
use Rattle.ir_model.specs.declared.operand.Intrinsic.{Intrinsic}
use Rattle.pass_fetch_proof.specs.ir_paths.Windows.{call_result, instr_at, instr_in, is_call_of, is_suspend_of, points_from, points_in, points_where, suspend_of}
use Rattle.pass_fetch_proof.specs.ir_paths.declared.point.Point.{Point}
use Rattle.pass_exits_proof.proofs.exits.rules.Places.{after, grow, none_there, own_there, spot, unplaced, with_places}
use Rattle.pass_fetch_proof.specs.run_source_tables.Given.{has_final, is_final, is_final_call}
use Rattle.pass_split.specs.pass_exits.ExitBlocks.{blocks_by, exit_blocks, with_exit_blocks}
use Rattle.pass_split.specs.pass_exits.Exits.{block_exits}
use Rattle.pass_split.specs.pass_exits.declared.exit.Exit.{Exit}

abbrev shift : ℕ → Point → Point
shift c p = record { block = c + p.block; at = p.at }

module _ (f : Function) (test : Instr → Bool) where
  abbrev to : ℕ → ℕ → List Block → Point → Point
  to at n bs p = record { block = place_of (grow f) (after f) p.block n (with_places at bs); at = p.at }

  -- the blocks on edges have no instruction
  skip : (n : ℕ) (es : List Exit) (c : ℕ) (rest : List Block) → points_in test c (exit_blocks n es ++ rest) ≡ points_in test (c + length (map unplaced (exit_blocks n es))) rest
  skip n [] c rest = let z : c ≡ c + 0 = omega arith in ap (λ (k : ℕ). points_in test k rest) z
  skip n (e ∷ es) c rest =
      let z : suc c + length (map unplaced (exit_blocks (n + 1) es)) ≡ c + suc (length (map unplaced (exit_blocks (n + 1) es))) = omega arith in
      skip (n + 1) es (suc c) rest ∙ ap (λ (k : ℕ). points_in test k rest) z

  first_stays : (at n here : ℕ) (b : Block) (bs : List Block) (is : List Instr) → points_from test 0 here is ≡ map (to at n (b ∷ bs)) (points_from test 0 here is)
  first_stays at n here b bs [] = refl
  first_stays at n here b bs (i ∷ is) = on (test i) (first_stays at n (suc here) b bs is)
    where
      on : (t : Bool) → points_from test 0 (suc here) is ≡ map (to at n (b ∷ bs)) (points_from test 0 (suc here) is) → (if t then record { block = 0; at = here } ∷ points_from test 0 (suc here) is else points_from test 0 (suc here) is) ≡ map (to at n (b ∷ bs)) (if t then record { block = 0; at = here } ∷ points_from test 0 (suc here) is else points_from test 0 (suc here) is)
      on true e = ap (λ (ps : List Point). record { block = 0; at = here } ∷ ps) e
      on false e = e

  points_by : (at n : ℕ) (bs : List Block) → points_in test 0 (blocks_by f at n bs) ≡ map (to at n bs) (points_in test 0 bs)
  points_by at n [] = refl
  points_by at n (b ∷ bs) =
      let first = first_stays at n 0 b bs b.instrs in
      let rest = behind (points_by (at + 1) next bs) in
      (λ i. first i ++ rest i) ∙ sym (map-append (to at n (b ∷ bs)) (points_from test 0 0 b.instrs) (points_in test 1 bs))
    where
      next : ℕ
      next = n + length (block_exits f at b)

      count : ℕ
      count = length (map unplaced (exit_blocks n (block_exits f at b)))

      behind : points_in test 0 (blocks_by f (at + 1) next bs) ≡ map (to (at + 1) next bs) (points_in test 0 bs) → points_in test 1 (exit_blocks n (block_exits f at b) ++ blocks_by f (at + 1) next bs) ≡ map (to at n (b ∷ bs)) (points_in test 1 bs)
      behind again =
          let z : 1 + count ≡ suc count + 0 = omega arith in
          let one : 1 ≡ 1 + 0 = omega arith in
          skip n (block_exits f at b) 1 (blocks_by f (at + 1) next bs)
          ∙ ap (λ (k : ℕ). points_in test k (blocks_by f (at + 1) next bs)) z
          ∙ shift_in test (suc count) 0 (blocks_by f (at + 1) next bs)
          ∙ ap (map (shift (suc count))) again
          ∙ map_map (shift (suc count)) (to (at + 1) next bs) (points_in test 0 bs)
          ∙ map_same _ _ (λ p. ends p) (points_in test 0 bs)
          ∙ sym (map_map (to at n (b ∷ bs)) (shift 1) (points_in test 0 bs))
          ∙ ap (map (to at n (b ∷ bs))) (sym (ap (λ (k : ℕ). points_in test k bs) one ∙ shift_in test 1 0 bs))
        where
          ends : (p : Point) → shift (suc count) (to (at + 1) next bs p) ≡ to at n (b ∷ bs) (shift 1 p)
          ends p = let s : suc p.block ≡ 1 + p.block = omega arith in ap (λ (k : ℕ). to at n (b ∷ bs) (record { block = k; at = p.at })) s

module _ (f : Function) where
  abbrev pub moved : Point → Point
  moved p = record { block = spot f p.block; at = p.at }

  -- the instructions that pass a test are where they were
  pub points_moved : (test : Instr → Bool) → points_where test (with_exit_blocks f) ≡ map moved (points_where test f)
  points_moved test = points_by f test 0 (length f.names) f.blocks

  -- the same instruction stands at a point
  pub instr_moved : (p : Point) → instr_at (with_exit_blocks f) (moved p) ≡ instr_at f p
  instr_moved p = on (slice_get f.blocks p.block) refl
    where
      on : (o : Option Block) → slice_get f.blocks p.block ≡ o → instr_at (with_exit_blocks f) (moved p) ≡ instr_in o p.at
      on None e = ap (λ (x : Option Block). instr_in x p.at) (none_there f p.block e)
      on (Some b) e = ap (λ (x : Option Block). instr_in x p.at) (own_there f p.block b e)

  -- the suspend of a save is moved
  pub suspend_moved : (p : Point) → suspend_of (with_exit_blocks f) (moved p) ≡ option_map moved (suspend_of f p)
  suspend_moved p =
      ap (λ (o : Option Instr). slice_get (points_where (is_suspend_of (option_and_then call_result o)) (with_exit_blocks f)) 0) (instr_moved p)
      ∙ ap (λ (ps : List Point). slice_get ps 0) (points_moved (is_suspend_of (option_and_then call_result (instr_at f p))))
      ∙ slice_get-map moved (points_where (is_suspend_of (option_and_then call_result (instr_at f p))) f) 0

  pub final_moved : (p : Point) → is_final (with_exit_blocks f) (moved p) ≡ is_final f p
  final_moved p = ap is_final_call (instr_moved p)

  any_final : (ps : List Point) → list_any (is_final (with_exit_blocks f)) (map moved ps) ≡ list_any (is_final f) ps
  any_final [] = refl
  any_final (p ∷ ps) =
      let first = final_moved p in
      let rest = any_final ps in
      λ i. first i || rest i

  pub finals_same : has_final (with_exit_blocks f) ≡ has_final f
  finals_same = ap (list_any (is_final (with_exit_blocks f))) (points_moved (is_call_of Intrinsic.CoroSuspend)) ∙ any_final (points_where (is_call_of Intrinsic.CoroSuspend) f)

  -- begin's name is the same
  pub begin_same : begin_name (with_exit_blocks f) ≡ begin_name f
  begin_same =
      ap (λ (ps : List Point). option_and_then call_result (option_and_then (instr_at (with_exit_blocks f)) (slice_get ps 0))) (points_moved (is_call_of Intrinsic.CoroBegin))
      ∙ ap (λ (o : Option Point). option_and_then call_result (option_and_then (instr_at (with_exit_blocks f)) o)) (slice_get-map moved (points_where (is_call_of Intrinsic.CoroBegin) f) 0)
      ∙ on (slice_get (points_where (is_call_of Intrinsic.CoroBegin) f) 0)
    where
      on : (o : Option Point) → option_and_then call_result (option_and_then (instr_at (with_exit_blocks f)) (option_map moved o)) ≡ option_and_then call_result (option_and_then (instr_at f) o)
      on None = refl
      on (Some p) = ap (option_and_then call_result) (instr_moved p)
