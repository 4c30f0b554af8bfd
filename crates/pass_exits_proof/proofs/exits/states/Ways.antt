-- The edges of a coroutine, and those of the coroutine whose edges that leave windows have blocks.
use Rattle.std.proofs.Common.{◌≡◌, inl, inr, ℕ, Bool, true, false, List, [], ◌∷◌, length, refl, sym, ap, ◌∙◌, subst, arith}
use Rattle.std.proofs.lemmas.Bool.{le-ltb}
use Rattle.std.specs.Prelude.{Some, None, Option, filter, map, nat_lt, slice_get, ◌==◌}
use Rattle.pass_fetch_proof.specs.flow_solver.Paths.{IsListed}
use Rattle.pass_fetch_proof.specs.ir_laws.facts.threads.Moved.{ArePaired}
use Rattle.pass_fetch_proof.specs.ir_laws.paths.threads.Moved.{GoesTo}
use Rattle.pass_fetch_proof.specs.ir_laws.paths.threads.Threads.{IsBetween}
use Rattle.pass_fetch_proof.specs.edges.rules.Phis.{ArePhisEnteredByJumps}
use Rattle.pass_fetch_proof.specs.ir_laws.paths.branches.Ways.{AreFetched}
use Rattle.pass_fetch_proof.specs.ir_laws.facts.branches.Ways.{TermsPaired}
use Rattle.pass_fetch_proof.specs.rule_laws.rules.function_rules.Kept.{KeepsFunctionRules}
use Rattle.ir_model.specs.Names.{position_of}
use Rattle.ir_model.specs.declared.instr.Case.{Case}
use Rattle.ir_model.specs.declared.instr.Instr.{Instr}
use Rattle.ir_model.specs.declared.instr.Terminator.{Terminator}
use Rattle.ir_model.specs.declared.module.Block.{Block}
use Rattle.ir_model.specs.declared.module.Function.{Function}
use Rattle.ir_model.specs.declared.module.Module.{Module}
use Rattle.pass_fetch_proof.proofs.ir_paths.Search.{Has, eq_from, eq_itself}
use Rattle.pass_fetch_proof.specs.ir_paths.Paths.{entry_point, nexts, targets}
use Rattle.pass_fetch_proof.specs.ir_paths.Windows.{leaves, windows_of}
use Rattle.pass_fetch_proof.specs.ir_paths.declared.point.Point.{Point}
use Rattle.pass_exits_proof.proofs.exits.rules.Cuts.{Cut, cut_labels, cut_targets, later_cut, one_cut}
use Rattle.pass_exits_proof.proofs.exits.rules.Places.{none_there, own_number, own_there, spot}
use Rattle.pass_exits_proof.proofs.exits.rules.Threaded.{moves, threaded, way}
use Rattle.pass_fetch_proof.proofs.rule_laws.rules.threaded.Threads.{IsThreaded}
use Rattle.pass_fetch_proof.proofs.ir_laws.paths.threaded.Threads.{IsWay}
use Rattle.pass_fetch_proof.specs.run_step.Step.{Nowhere, fetch, fetch_in, fetch_or, phis_of}
use Rattle.pass_exits_proof.proofs.exits.states.Points.{moved, points_moved, suspend_moved}
use Rattle.pass_fetch_proof.proofs.rule_laws.rules.threading.Threading.{entry_has, entry_moved, is_between, moved_nexts, own_nexts, threads}
use Rattle.pass_fetch_proof.proofs.edges.threads.Windows.{left_moved, none_left}
use Rattle.pass_fetch_proof.specs.run_states.moved_states.Moving.{Goes, saves_left}
use Rattle.pass_split.specs.pass_exits.ExitBlocks.{after_exit, exit_cases, exit_term, with_exit_blocks}
use Rattle.pass_split.specs.pass_exits.Exits.{block_exits, exits_to, mark_of}

-- ---- pairs

paired_map : (R S : ℕ → ℕ → Type 0) → ((t l : ℕ) → R t l → S t l) → (ts ls : List ℕ) → ArePaired R ts ls → ArePaired S ts ls
paired_map R S h [] [] all = tt
paired_map R S h [] (l ∷ ls) all = absurd all
paired_map R S h (t ∷ ts) [] all = absurd all
paired_map R S h (t ∷ ts) (l ∷ ls) all = (h t l all.0, paired_map R S h ts ls all.1)

-- both are of their lists
paired_listed : (R : ℕ → ℕ → Type 0) (ts ls : List ℕ) → ArePaired R ts ls → ArePaired (λ t l. R t l × (IsListed t ts × IsListed l ls)) ts ls
paired_listed R [] [] all = tt
paired_listed R [] (l ∷ ls) all = absurd all
paired_listed R (t ∷ ts) [] all = absurd all
paired_listed R (t ∷ ts) (l ∷ ls) all = (
  (all.0, (inl refl, inl refl)),
  paired_map (λ u k. R u k × (IsListed u ts × IsListed k ls)) (λ u k. R u k × (IsListed u (t ∷ ts) × IsListed k (l ∷ ls))) (λ u k h. (h.0, (inr h.1.0, inr h.1.1))) ts ls (paired_listed R ts ls all.1),
)

module _ (f : Function) (at from : ℕ) where
  cut_pairs : (n : ℕ) (ts : List ℕ) → ArePaired (λ t l. Cut f at from n (exits_to f at from ts) t l) ts (cut_labels f at from n ts)
  cut_pairs n [] = tt
  cut_pairs n (u ∷ ts) = (
    one_cut f at from n u ts (mark_of f at u) refl,
    paired_map (λ t l. Cut f at from (after_exit n (mark_of f at u)) (exits_to f at from ts) t l) (λ t l. Cut f at from n (exits_to f at from (u ∷ ts)) t l) (λ t l c. later_cut f at from n u ts t l (mark_of f at u) c) ts (cut_labels f at from (after_exit n (mark_of f at u)) ts) (cut_pairs (after_exit n (mark_of f at u)) ts),
  )

  -- ---- terminators

  cases_paired : (W : ℕ → ℕ → Type 0) (n : ℕ) (cases : List Case) → ArePaired W (map (λ (k : Case). k.target) cases) (map (λ (k : Case). k.target) (exit_cases f at n cases)) → ArePaired (λ (k : Case) (j : Case). (j.arg ≡ k.arg) × W k.target j.target) cases (exit_cases f at n cases)
  cases_paired W n [] h = tt
  cases_paired W n (k ∷ cases) h = ((refl, h.0), cases_paired W (after_exit n (mark_of f at k.target)) cases h.1)

  terms_paired : (W : ℕ → ℕ → Type 0) (n : ℕ) (t : Terminator) → ArePaired W (targets t) (targets (exit_term f at n t)) → TermsPaired W t (exit_term f at n t)
  terms_paired W n (Terminator.Jump label) h = h.0
  terms_paired W n (Terminator.Branch c a b) h = (refl, (h.0, h.1.0))
  terms_paired W n (Terminator.Switch arg default cases) h = (refl, (h.0, cases_paired W (after_exit n (mark_of f at default)) cases h.1))
  terms_paired W n (Terminator.Ret value) h = refl
  terms_paired W n Terminator.Unreachable h = tt

module _ (m : Module) (func : ℕ) (f : Function) (rules : KeepsFunctionRules m func f) (jumps : ArePhisEnteredByJumps f) where
  abbrev g : Function
  g = with_exit_blocks f

  abbrev t : IsThreaded f (with_exit_blocks f) (moves f)
  t = threaded m func f rules jumps

  -- ---- one edge

  module _ (p : Point) (b : Block) (there : slice_get f.blocks p.block ≡ Some b) (last : p.at ≡ length b.instrs) (target label : ℕ) (listed : IsListed target (targets b.term)) (named : IsListed label (targets (exit_term f p.block (own_number f p.block) b.term))) where
    edge_there : Has (nexts (with_exit_blocks f) (moved f p)) (entry_point (with_exit_blocks f) label)
    edge_there = subst (λ (ps : List Point). Has ps (entry_point g label)) (sym (moved_nexts f g (moves f) t p b there ∙ ends)) (entry_has g (targets (exit_term f p.block (own_number f p.block) b.term)) label named)
      where
        low : nat_lt p.at (length b.instrs) ≡ false
        low = le-ltb p.at (length b.instrs) (omega (arith, last))

        is_last : (p.at == length b.instrs) ≡ true
        is_last = ap (λ (n : ℕ). n == length b.instrs) last ∙ eq_itself (length b.instrs)

        ends : own_nexts f g (moves f) t g p (spot f p.block) (nat_lt p.at (length b.instrs)) (p.at == length b.instrs) (targets (exit_term f p.block (own_number f p.block) b.term)) ≡ map (entry_point g) (targets (exit_term f p.block (own_number f p.block) b.term))
        ends = λ i. own_nexts f g (moves f) t g p (spot f p.block) (low i) (is_last i) (targets (exit_term f p.block (own_number f p.block) b.term))

    left_by_way : GoesTo (with_exit_blocks f) (moved f) (entry_point f target) (entry_point (with_exit_blocks f) label) → saves_left (with_exit_blocks f) (moved f p) (entry_point (with_exit_blocks f) label) ≡ map (moved f) (saves_left f p (entry_point f target))
    left_by_way h = left_moved f g (moved f) (threads f g (moves f) t) (points_moved f) (suspend_moved f) p (entry_point f target) (entry_point g label) edge_there h

    old : position_of (with_exit_blocks f) target ≡ spot f (position_of f target)
    old = t.old p.block b target there listed

    goes : IsWay f (with_exit_blocks f) (moves f) p.block target label → Goes f (with_exit_blocks f) (spot f) p target label
    goes (inl d) = record {
      way = inl (record { to = ap (position_of g) d ∙ old });
      left = left_by_way (inl (ap (entry_point g) d ∙ entry_moved f g (moves f) t target old));
    }
    goes (inr o) = record {
      way = inr (record {
        label = label;
        got = o.got;
        next = o.next;
        unphied = unphied (slice_get f.blocks (position_of f target)) refl;
        stays = subst (λ (q : Point). filter (leaves (entry_point g label) q) (windows_of g) ≡ []) (sym (entry_moved f g (moves f) t target old)) (none_left f g (moved f) (threads f g (moves f) t) (points_moved f) (suspend_moved f) (entry_point f target) (entry_point g label) between);
      });
      left = left_by_way (inr between);
    }
      where
        between : IsBetween (with_exit_blocks f) (moved f) (moved f (entry_point f target)) (entry_point (with_exit_blocks f) label)
        between = is_between f g (moves f) t p.block target label o

        unphied : (c : Option Block) → slice_get f.blocks (position_of f target) ≡ c → phis_of c ≡ []
        unphied None e = refl
        unphied (Some c) e = o.unphied c e

  -- ---- what stands at a place

  pairs : (p : Point) (b : Block) → slice_get f.blocks p.block ≡ Some b → p.at ≡ length b.instrs → ArePaired (Goes f (with_exit_blocks f) (spot f) p) (targets b.term) (targets (exit_term f p.block (own_number f p.block) b.term))
  pairs p b there last =
      subst (ArePaired (Goes f g (spot f) p) (targets b.term)) (sym labels)
      (paired_map (λ u l. Cut f p.block b.label (own_number f p.block) (block_exits f p.block b) u l × (IsListed u (targets b.term) × IsListed l cuts)) (Goes f g (spot f) p)
      (λ u l h. goes p b there last u l h.1.0 (subst (IsListed l) (sym labels) h.1.1) (way m func f rules jumps p.block b u l there h.1.0 h.0))
      (targets b.term) cuts
      (paired_listed (λ u l. Cut f p.block b.label (own_number f p.block) (block_exits f p.block b) u l) (targets b.term) cuts (cut_pairs f p.block b.label (own_number f p.block) (targets b.term))))
    where
      cuts : List ℕ
      cuts = cut_labels f p.block b.label (own_number f p.block) (targets b.term)

      labels : targets (exit_term f p.block (own_number f p.block) b.term) ≡ cut_labels f p.block b.label (own_number f p.block) (targets b.term)
      labels = cut_targets f p.block b.label (own_number f p.block) b.term

  pub places_kept : (p : Point) → AreFetched (Goes f (with_exit_blocks f) (spot f) p) (fetch f p.block p.at) (fetch (with_exit_blocks f) (spot f p.block) p.at)
  places_kept p = on (slice_get f.blocks p.block) refl
    where
      instrs : (b : Block) → slice_get f.blocks p.block ≡ Some b → (o : Option Instr) (last : Bool) → (p.at == length b.instrs) ≡ last → AreFetched (Goes f (with_exit_blocks f) (spot f) p) (fetch_or o last b.term) (fetch_or o last (exit_term f p.block (own_number f p.block) b.term))
      instrs b e (Some i) last s = refl
      instrs b e None true s = terms_paired f p.block b.label (Goes f g (spot f) p) (own_number f p.block) b.term (pairs p b e (eq_from p.at (length b.instrs) s))
      instrs b e None false s = tt

      on : (o : Option Block) → slice_get f.blocks p.block ≡ o → AreFetched (Goes f (with_exit_blocks f) (spot f) p) (fetch_in o p.at) (fetch (with_exit_blocks f) (spot f p.block) p.at)
      on None e = subst (λ (x : Option Block). AreFetched (Goes f g (spot f) p) Nowhere (fetch_in x p.at)) (sym (none_there f p.block e)) tt
      on (Some b) e =
          subst (λ (x : Option Block). AreFetched (Goes f g (spot f) p) (fetch_in (Some b) p.at) (fetch_in x p.at)) (sym (own_there f p.block b e))
          (instrs b e (slice_get b.instrs p.at) (p.at == length b.instrs) refl)
