-- Blocks on the edges that leave windows move coroutines.
use Rattle.std.proofs.Common.{◌≡◌, inl, ℕ, ◌+◌, Bool, true, false, List, [], ◌∷◌, ◌++◌, length, refl, sym, ap, ◌∙◌, subst, arith, length-append}
use Rattle.std.specs.List.{flat_map, list_any}
use Rattle.std.specs.Prelude.{Some, None, Option, map, option_map, slice_get, unwrap_or, if◌then◌else◌, ◌||◌}
use Rattle.pass_edges.specs.Edges.{is_suspend}
use Rattle.pass_fetch_proof.specs.run_states.sound_states.Sound.{IsSuspendAt}
use Rattle.pass_fetch_proof.proofs.edges.rules.CaseLabels.{switch_target}
use Rattle.pass_fetch_proof.proofs.edges.rules.Switched.{switched}
use Rattle.pass_fetch_proof.specs.edges.rules.Returns.{AreSwitched}
use Rattle.pass_fetch_proof.specs.rule_laws.rules.rows.Returns.{IsSwitched}
use Rattle.pass_fetch_proof.specs.ir_laws.facts.threads.Moved.{ArePaired}
use Rattle.pass_fetch_proof.specs.ir_laws.facts.branches.MovedState.{IsSwitch}
use Rattle.pass_fetch_proof.specs.ir_laws.paths.branches.Ways.{AreFetched}
use Rattle.pass_fetch_proof.specs.ir_laws.facts.branches.Ways.{TermsPaired}
use Rattle.pass_fetch_proof.specs.run_framed.Framed.{alloca_from, alloca_of}
use Rattle.ir_model.specs.Names.{no_function, position_of}
use Rattle.ir_model.specs.declared.instr.Instr.{Instr}
use Rattle.ir_model.specs.declared.instr.Terminator.{Terminator}
use Rattle.ir_model.specs.declared.module.Block.{Block}
use Rattle.ir_model.specs.declared.module.Function.{Function}
use Rattle.ir_model.specs.declared.module.Module.{Module}
use Rattle.pass_fetch_proof.specs.ir_paths.Slots.{allocas_in}
use Rattle.pass_fetch_proof.specs.ir_paths.Paths.{entry_point}
use Rattle.pass_fetch_proof.specs.ir_paths.Windows.{instr_in, label_at, label_of_term, suspend_of}
use Rattle.pass_fetch_proof.specs.ir_paths.declared.point.Point.{Point}
use Rattle.pass_exits_proof.proofs.exits.rules.Places.{none_there, own_number, own_there, spot, spots_apart}
use Rattle.pass_exits_proof.proofs.exits.rules.Shape.{suspend_block}
use Rattle.pass_fetch_proof.proofs.edges.exit_rules.Shape.{suspend_is}
use Rattle.pass_exits_proof.proofs.exits.rules.Suspends.{suspend_ends}
use Rattle.pass_exits_proof.proofs.exits.rules.Threaded.{moves, threaded}
use Rattle.pass_fetch_proof.proofs.rule_laws.rules.threaded.Threads.{IsThreaded}
use Rattle.pass_fetch_proof.specs.run_step.Step.{AtInstr, AtTerm, Fetched, Nowhere, fetch, has_markers, is_marker_of, label_of, phis_of}
use Rattle.pass_exits_proof.proofs.exits.states.Points.{begin_same, final_moved, finals_same, suspend_moved}
use Rattle.pass_exits_proof.proofs.exits.states.Ways.{places_kept}
use Rattle.pass_exits_proof.specs.exits.states.Exits.{AreExitsKept, KeepsExits, exit_function}
use Rattle.pass_fetch_proof.specs.run_states.moved_states.Moving.{AllMove, Goes, IsMovedTo, KeepsKinds, Moving, StaysBehind, at_spot, saves_left}
use Rattle.ir_model.specs.declared.instr.Case.{Case}
use Rattle.pass_split.specs.pass_exits.ExitBlocks.{blocks_by, exit_block, exit_blocks, exit_names, with_exit_blocks, with_exits}
use Rattle.pass_split.specs.pass_exits.Exits.{block_exits, exits_of}
use Rattle.pass_split.specs.pass_exits.declared.exit.Exit.{Exit}
use Rattle.pass_exits_proof.proofs.exits.rules.Names.{names_length as names_count}

-- ---- all blocks

module _ (f : Function) (test : Block → Bool) (old : (at n : ℕ) (b : Block) → test (with_exits f at n b) ≡ test b) (new : (n : ℕ) (e : Exit) → test (exit_block n e) ≡ false) where
  any_behind : (n : ℕ) (es : List Exit) (rest : List Block) → list_any test (exit_blocks n es ++ rest) ≡ list_any test rest
  any_behind n [] rest = refl
  any_behind n (e ∷ es) rest = ap (λ (b : Bool). b || list_any test (exit_blocks (n + 1) es ++ rest)) (new n e) ∙ any_behind (n + 1) es rest

  any_same : (at n : ℕ) (bs : List Block) → list_any test (blocks_by f at n bs) ≡ list_any test bs
  any_same at n [] = refl
  any_same at n (b ∷ bs) =
      let first = old at n b in
      let rest = any_behind n (block_exits f at b) (blocks_by f (at + 1) (n + length (block_exits f at b)) bs) ∙ any_same (at + 1) (n + length (block_exits f at b)) bs in
      λ i. first i || rest i

markers_same : (f : Function) (name : ℕ) → has_markers (with_exit_blocks f) name ≡ has_markers f name
markers_same f name = any_same f (λ b. list_any (is_marker_of name) b.instrs) (λ at n b. refl) (λ n e. refl) 0 (length f.names) f.blocks

module _ (f : Function) where
  slots_behind : (n : ℕ) (es : List Exit) (rest : List Block) → flat_map (λ (b : Block). allocas_in b.instrs) (exit_blocks n es ++ rest) ≡ flat_map (λ (b : Block). allocas_in b.instrs) rest
  slots_behind n [] rest = refl
  slots_behind n (e ∷ es) rest = slots_behind (n + 1) es rest

  slots_by : (at n : ℕ) (bs : List Block) → flat_map (λ (b : Block). allocas_in b.instrs) (blocks_by f at n bs) ≡ flat_map (λ (b : Block). allocas_in b.instrs) bs
  slots_by at n [] = refl
  slots_by at n (b ∷ bs) =
      ap (λ (xs : List ℕ). allocas_in b.instrs ++ xs)
      (slots_behind n (block_exits f at b) (blocks_by f (at + 1) (n + length (block_exits f at b)) bs) ∙ slots_by (at + 1) (n + length (block_exits f at b)) bs)

  first_same : (n at : ℕ) (bs : List Block) → alloca_of (slice_get (blocks_by f 0 n bs) 0) at ≡ alloca_of (slice_get bs 0) at
  first_same n at [] = refl
  first_same n at (b ∷ bs) = refl

  allocas_same : (at : ℕ) → alloca_from (with_exit_blocks f) at ≡ alloca_from f at
  allocas_same at = ap (option_map (λ (k : ℕ). record { block = 0; at = k })) (first_same (length f.names) at f.blocks)

  labels_same : (k : ℕ) → label_of (slice_get (with_exit_blocks f).blocks (spot f k)) ≡ label_of (slice_get f.blocks k)
  labels_same k = on (slice_get f.blocks k) refl
    where
      on : (o : Option Block) → slice_get f.blocks k ≡ o → label_of (slice_get (with_exit_blocks f).blocks (spot f k)) ≡ label_of o
      on None e = ap label_of (none_there f k e)
      on (Some b) e = ap label_of (own_there f k b e)

  phis_same : (k : ℕ) → phis_of (slice_get (with_exit_blocks f).blocks (spot f k)) ≡ phis_of (slice_get f.blocks k)
  phis_same k = on (slice_get f.blocks k) refl
    where
      on : (o : Option Block) → slice_get f.blocks k ≡ o → phis_of (slice_get (with_exit_blocks f).blocks (spot f k)) ≡ phis_of o
      on None e = ap phis_of (none_there f k e)
      on (Some b) e = ap phis_of (own_there f k b e)

-- ---- a coroutine

module _ (m : Module) (func : ℕ) (f : Function) (coroutine : f.coroutine ≡ true) (h : KeepsExits m func f) where
  last : AreSwitched f
  last = switched func f coroutine h.switches

  t : IsThreaded f (with_exit_blocks f) (moves f)
  t = threaded m func f h.rules h.jumps

  -- where a suspend stands
  record StandsIn (p : Point) (i : Instr) : Type 0 where
    block : Block
    there : slice_get f.blocks p.block ≡ Some block
    stands : slice_get block.instrs p.at ≡ Some i

  stands_in : (p : Point) (i : Instr) → instr_in (slice_get f.blocks p.block) p.at ≡ Some i → StandsIn p i
  stands_in p i = on (slice_get f.blocks p.block) refl
    where
      on : (o : Option Block) → slice_get f.blocks p.block ≡ o → instr_in o p.at ≡ Some i → StandsIn p i
      on None e d = absurd (cc)
      on (Some b) e d = record { block = b; there = e; stands = d }

  behind : (p : Point) (n : ℕ) → IsSuspendAt f p → StaysBehind f (with_exit_blocks f) (spot f) p n
  behind p n s = by (stands_in p s.instr s.is)
    where
      by : StandsIn p s.instr → StaysBehind f (with_exit_blocks f) (spot f) p n
      by x = record {
        same = ap (label_at n) (own_there f p.block x.block x.there ∙ ap Some stays ∙ sym x.there);
        found = ap (λ (l : ℕ). position_of (with_exit_blocks f) l) label ∙ t.old p.block x.block (label_of_term n x.block.term) x.there (switch_target n x.block.term (subst IsSwitch (sym at_end.is) tt)) ∙ ap (λ (l : ℕ). spot f (position_of f l)) (sym label);
      }
        where
          suspends : is_suspend s.instr ≡ true
          suspends = suspend_is s.instr s.suspends

          at_end : IsSwitched x.block p.at s.instr
          at_end = last p.block p.at x.block s.instr x.there x.stands suspends

          stays : with_exits f p.block (own_number f p.block) x.block ≡ x.block
          stays = suspend_block f p.block (own_number f p.block) x.block x.there (suspend_ends f last p.block x.block p.at s.instr x.there x.stands suspends)

          label : label_at n (slice_get f.blocks p.block) ≡ label_of_term n x.block.term
          label = ap (label_at n) x.there

  pub coroutine_moved : IsMovedTo f (with_exit_blocks f) (spot f)
  coroutine_moved = record {
    entry = refl;
    spots = spots_apart f;
    labels = labels_same f;
    phis = phis_same f;
    markers = markers_same f;
    slots = slots_by f 0 (length f.names) f.blocks;
    begins = begin_same f;
    allocas = allocas_same f;
    suspends = suspend_moved f;
    final = final_moved f;
    finals = finals_same f;
    behind = behind;
    places = places_kept m func f h.rules h.jumps;
  }

-- ---- a function that stays

same_cases : (W : ℕ → ℕ → Type 0) → ((t : ℕ) → W t t) → (cases : List Case) → ArePaired (λ (k : Case) (j : Case). (j.arg ≡ k.arg) × W k.target j.target) cases cases
same_cases W h [] = tt
same_cases W h (k ∷ cases) = ((refl, h k.target), same_cases W h cases)

same_term : (W : ℕ → ℕ → Type 0) → ((t : ℕ) → W t t) → (t : Terminator) → TermsPaired W t t
same_term W h (Terminator.Jump t) = h t
same_term W h (Terminator.Branch x a b) = (refl, (h a, h b))
same_term W h (Terminator.Switch x d cases) = (refl, (h d, same_cases W h cases))
same_term W h (Terminator.Ret v) = refl
same_term W h Terminator.Unreachable = tt

same_fetched : (W : ℕ → ℕ → Type 0) → ((t : ℕ) → W t t) → (x : Fetched) → AreFetched W x x
same_fetched W h Nowhere = tt
same_fetched W h (AtInstr i) = refl
same_fetched W h (AtTerm t) = same_term W h t

points_stay : (ps : List Point) → ps ≡ map (at_spot (λ k. k)) ps
points_stay [] = refl
points_stay (p ∷ ps) = ap (λ (qs : List Point). p ∷ qs) (points_stay ps)

point_stays : (o : Option Point) → o ≡ option_map (at_spot (λ k. k)) o
point_stays None = refl
point_stays (Some p) = refl

plain_moved : (f : Function) → IsMovedTo f f (λ k. k)
plain_moved f = record {
  entry = refl;
  spots = λ j k e. e;
  labels = λ k. refl;
  phis = λ k. refl;
  markers = λ name. refl;
  slots = refl;
  begins = refl;
  allocas = λ at. refl;
  suspends = λ p. point_stays (suspend_of f p);
  final = λ p. refl;
  finals = refl;
  behind = λ p n s. record { same = refl; found = refl };
  places = λ p. same_fetched (Goes f f (λ k. k) p) (λ t. record { way = inl (record { to = refl }); left = points_stay (saves_left f p (entry_point f t)) }) (fetch f p.block p.at);
}

-- ---- all functions

abbrev pub exit_moving : Moving
exit_moving = record {
  to = exit_function;
  spot = λ f k. if f.coroutine then spot f k else k;
  more = λ f. if f.coroutine then length (exits_of f) else 0;
}

-- what holds where coroutines have such blocks, and where nothing changes
by_kind : (P : Function → (ℕ → ℕ) → ℕ → Type 0) (f : Function) → (f.coroutine ≡ true → P (with_exit_blocks f) (spot f) (length (exits_of f))) → (f.coroutine ≡ false → P f (λ k. k) 0) → P (exit_function f) (λ k. if f.coroutine then spot f k else k) (if f.coroutine then length (exits_of f) else 0)
by_kind P f split plain = on f.coroutine refl
  where
    on : (b : Bool) → f.coroutine ≡ b → P (if b then with_exit_blocks f else f) (λ k. if b then spot f k else k) (if b then length (exits_of f) else 0)
    on true e = split e
    on false e = plain e

pub kinds : KeepsKinds exit_moving
kinds = record {
  nothing = refl;
  name = λ f. by_kind (λ g to n. g.name ≡ f.name) f (λ e. refl) (λ e. refl);
  result = λ f. by_kind (λ g to n. g.result ≡ f.result) f (λ e. refl) (λ e. refl);
  params = λ f. by_kind (λ g to n. g.params ≡ f.params) f (λ e. refl) (λ e. refl);
  coroutine = λ f. by_kind (λ g to n. g.coroutine ≡ f.coroutine) f (λ e. refl) (λ e. refl);
  names = λ f. by_kind (λ g to n. length g.names ≡ length f.names + n) f
      (λ e. length-append f.names (exit_names 0 (exits_of f)) ∙ ap (λ (n : ℕ). length f.names + n) (names_count 0 (exits_of f)))
      (λ e. omega arith);
}

function_moves : (m : Module) (func : ℕ) (f : Function) → (f.coroutine ≡ true → KeepsExits m func f) → IsMovedTo f (exit_function f) (λ k. if f.coroutine then spot f k else k)
function_moves m func f h = by_kind (λ g to n. IsMovedTo f g to) f (λ e. coroutine_moved m func f e (h e)) (λ e. plain_moved f)

pub all_move : (m : Module) → AreExitsKept m → AllMove exit_moving m
all_move m h func = on (slice_get m.functions func) refl
  where
    on : (o : Option Function) → slice_get m.functions func ≡ o → IsMovedTo (unwrap_or o no_function) (exit_function (unwrap_or o no_function)) (λ k. if (unwrap_or o no_function).coroutine then spot (unwrap_or o no_function) k else k)
    on None e = function_moves m func no_function (λ c. absurd (cc))
    on (Some f) e = function_moves m func f (λ c. h func f e c)
