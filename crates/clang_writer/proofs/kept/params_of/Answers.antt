use Rattle.std.proofs.Common.{◌≡◌, ◌≤◌, ◌+◌, ◌++◌, ℕ, [], ◌∷◌, length, sym, subst, arith}
use Rattle.clang_tokens.specs.Brackets.{Bounded, depth_after, sret_after}
use Rattle.clang_tokens.specs.declared.brackets.Sret.{Sret}
use Rattle.clang_writer.specs.Kept.{kept_tokens, role_of}
use Rattle.clang_writer.specs.declared.kept.Role.{Role}
use Rattle.clang_writer.proofs.Bounds.{depth_bound, next_bound}
use Rattle.clang_writer.proofs.Params.{inside_turn, params_end, part_turn, stop_turn}
use Rattle.clang_writer.proofs.kept.params_of.Goals as goal
use Rattle.clang_writer.proofs.kept.params_of.Goals.{in-Parts+in_ok-push-in-Parts, in-Inside+in_ok-push_kept-in-Inside}

pub returns-in-Closes : goal.returns-in-Closes
returns-in-Closes c =
    let bytes = c.as_bytes-bytes.ensures in
    let told = c.role_of.ensures in
    let is = c.in-Closes.is in
    let pushed = c.in_ok-push-in-Closes.ensures.ok in
    let does : role_of c.loop-token.depth c.token-item.result ≡ Role.Closes = cc in
    let put : c.push.new.self ≡ c.loop-token.params ++ c.loop-token.param ∷ [] = cc in
    stop_turn c.loop-token.params c.push.new.self c.loop-token.param c.loop-token.depth c.loop-token.sret c.args.tokens.now c.loop-token.token-index c.token-item.result _ c.loop-token-test.true c.token-item.is c.loop-token.invariant.read does put

pub loop-token-preserved : goal.loop-token-preserved
loop-token-preserved c =
    let bytes = c.as_bytes-bytes.ensures in
    let told = c.role_of.ensures in
    elim c.match-role_of.branch [
      | in-Parts+in_ok-push-in-Parts w ↦
          let is = w.in-Parts.is in
          let pushed = w.in_ok-push-in-Parts.ensures.ok in
          let params-is = w.params-is in
          let new-is = w.new-param-in-Parts.ensures in
          let param-is = w.param-is in
          let does : role_of c.loop-token.depth c.token-item.result ≡ Role.Parts = cc in
          let put : c.match-role_of.params ≡ c.loop-token.params ++ c.loop-token.param ∷ [] = cc in
          let empty : c.match-role_of.param ≡ [] = cc in
          record {
            bound = subst (λ (s : Sret). Bounded s (c.loop-token.token-index + 1 + 1)) (sym w.sret-is) tt;
            depth = subst (λ (d : ℕ). d ≤ c.loop-token.token-index + 1) (sym w.depth-is) (omega arith);
            read = part_turn c.loop-token.params c.match-role_of.params c.loop-token.param c.match-role_of.param c.loop-token.depth c.match-role_of.depth c.loop-token.sret c.match-role_of.sret c.args.tokens.now c.loop-token.token-index c.token-item.result _ c.loop-token-test.true c.token-item.is c.loop-token.invariant.read does put empty w.depth-is w.sret-is;
          }
      | in-Inside+in_ok-push_kept-in-Inside w ↦
          let is = w.in-Inside.is in
          let pushed = w.in_ok-push_kept-in-Inside.ensures in
          let params-is = w.params-is in
          let param-is = w.param-is in
          let depth-is = w.depth-is in
          let deeper-is = w.depth_after-depth.ensures in
          let sret-is = w.sret-is in
          let further-is = w.sret_after-sret.ensures in
          let does : role_of c.loop-token.depth c.token-item.result ≡ Role.Inside = cc in
          let put : c.match-role_of.param ≡ c.loop-token.param ++ kept_tokens c.loop-token.sret c.token-item.result = cc in
          let deeper : c.match-role_of.depth ≡ depth_after c.loop-token.depth c.token-item.result = cc in
          let further : c.match-role_of.sret ≡ sret_after c.loop-token.sret c.token-item.result = cc in
          record {
            bound = subst (λ (s : Sret). Bounded s (c.loop-token.token-index + 1 + 1)) (sym further) (next_bound c.loop-token.sret c.token-item.result (c.loop-token.token-index + 1) c.loop-token.invariant.bound);
            depth = subst (λ (d : ℕ). d ≤ c.loop-token.token-index + 1) (sym deeper) (depth_bound c.loop-token.depth c.loop-token.token-index c.token-item.result c.loop-token.invariant.depth);
            read = inside_turn c.loop-token.params c.match-role_of.params c.loop-token.param c.match-role_of.param c.loop-token.depth c.match-role_of.depth c.loop-token.sret c.match-role_of.sret c.args.tokens.now c.loop-token.token-index c.token-item.result _ c.loop-token-test.true c.token-item.is c.loop-token.invariant.read does params-is put deeper further;
          }
    ]

pub returns : goal.returns
returns c =
    let pushed = c.in_ok-push.ensures.ok in
    let put : c.push-2.new.self ≡ c.loop-token.params ++ c.loop-token.param ∷ [] = cc in
    params_end c.loop-token.params c.push-2.new.self c.loop-token.param c.loop-token.depth c.loop-token.sret c.args.tokens.now c.loop-token.token-index _ (let le = c.loop-token-test.false in omega (arith, le)) c.loop-token.invariant.read put
