-- `fill_at_line`: the three pieces stand one after another.
use Rattle.std.proofs.Common.{◌≡◌, ◌∙◌, ℕ, ◌+◌, List, ◌++◌, ◌∷◌, [], ap, length, drop, refl, sym, arith, length-append}
use Rattle.puzzle_text.specs.Words.{at_line}
use Rattle.nonograde_c.specs.declared.replies.Reply.{Reply}
use Rattle.nonograde_c.proofs.BufferLemmas.{put_behind}
use Rattle.nonograde_c.proofs.replies.fill_at_line.Goals as goal

pub returns : goal.returns
returns c =
    let bytes = c.args.bytes.now in
    let front = bytes ++ 58 ∷ [] in
    let digits = c.as_bytes-digits.result.now in
    let buffer = c.args.buffer.now in
    let first : c.put.new.buffer ≡ bytes ++ drop (length bytes) buffer = c.put.ensures ∙ put_behind [] bytes buffer buffer refl in
    let second : c.put-2.new.buffer ≡ front ++ drop (length front) buffer =
    c.put-2.ensures ∙ put_behind bytes (58 ∷ []) buffer c.put.new.buffer first in
    let place : length front ≡ length bytes + 1 = length-append bytes (58 ∷ []) in
    let third = c.put-3.ensures ∙ (rw place at (put_behind front digits buffer c.put-2.new.buffer second)) in
    let is_line : front ++ digits ≡ at_line bytes c.args.number =
    ap (λ (word : List ℕ). front ++ word) (c.as_bytes-digits.ensures.value ∙ c.format.ensures.text) in
    let long : length bytes + 1 + length digits ≡ length (at_line bytes c.args.number) =
    ap (λ (n : ℕ). n + length digits) (sym place) ∙ sym (length-append front digits) ∙ ap length is_line in
    record {
      reported = ap (λ (reply : Reply). reply.length) c.fitting.ensures ∙ long;
      fitting = λ fits. (
        ap (λ (reply : Reply). reply.status) c.fitting.ensures,
        third ∙ ap (λ (line : List ℕ). line ++ drop (length line) buffer) is_line,
      );
      refused = λ small. absurd (omega (arith, long, c.if-buffer-length.false));
    }
