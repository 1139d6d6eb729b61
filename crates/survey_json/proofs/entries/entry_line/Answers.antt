-- `entry_line`: one member more, and at the end the whole object.
use Rattle.std.proofs.Common.{◌≡◌, ◌∷◌, ◌++◌, ◌+◌, drop, get_or, refl, sym, subst, ◌∙◌, arith}
use Rattle.std.proofs.lemmas.List.{drop_all, drop_more}
use Rattle.serde_json.specs.View.{view}
use Rattle.survey_text.specs.Listed.{form_entry}
use Rattle.survey_json.specs.Entries.{object_of}
use Rattle.survey_json.specs.Keys.{key_word, value_under}
use Rattle.survey_json.specs.Lines.{member_text}
use Rattle.survey_json.specs.declared.keys.Key.TheVariants.{Fault}
use Rattle.survey_json.specs.declared.keys.TheConstants.{KEYS}
use Rattle.survey_json.proofs.LineLemmas.{IsWritten, none_written, object_has_all_keys, written_line, written_more, written_reads_back}
use Rattle.survey_json.proofs.ReadingLemmas.{IsReadable, readable}
use Rattle.survey_json.proofs.ShapeLemmas.{entry_is_shallow, value_has_no_float, value_is_shallow}
use Rattle.survey_json.proofs.entries.entry_line.Goals as goal

pub loop-key-init : goal.loop-key-init
loop-key-init c =
    let d = object_of c.args.number (form_entry c.args.entry.now) in
    subst (λ text. IsWritten text 123 d KEYS) (sym c.in_ok-line.ensures.items) (none_written d)

pub push_member-requires-clause-no_float : goal.push_member-requires-clause-no_float
push_member-requires-clause-no_float c =
    value_has_no_float _ c.args.number (form_entry c.args.entry.now) (get_or KEYS c.loop-key.key-index Fault) c.in_ok-value.ensures

pub push_member-requires-clause-depth : goal.push_member-requires-clause-depth
push_member-requires-clause-depth c =
    value_is_shallow _ c.args.number (form_entry c.args.entry.now) (get_or KEYS c.loop-key.key-index Fault) c.in_ok-value.ensures

pub loop-key-preserved : goal.loop-key-preserved
loop-key-preserved c =
    let entry = form_entry c.args.entry.now in
    let d = object_of c.args.number entry in
    let i = c.loop-key.key-index in
    let key = get_or KEYS i Fault in
    let value : view c.in_ok-value.value ≡ value_under d key = c.in_ok-value.ensures in
    let whole = value_has_no_float _ c.args.number entry key value in
    let shallow = value_is_shallow _ c.args.number entry key value in
    let pushed = c.in_ok-push_member.ensures in
    let read = readable _ whole (omega (arith, shallow)) pushed.order pushed.reads_back in
    let can : IsReadable (value_under d key) = subst IsReadable value read in
    let line : c.push_member.new.line.items ≡ c.loop-key.line.items ++ c.loop-key.before ∷ member_text (key_word key) (value_under d key) =
    pushed.text ∙ rw (c.key_word.ensures.word, value) refl in
    let first = drop_more KEYS i Fault c.loop-key-test.true in
    let written = subst (IsWritten c.loop-key.line.items c.loop-key.before d) first c.loop-key.invariant in
    subst (λ text. IsWritten text 44 d (drop (i + 1) KEYS)) (sym line) (written_more _ _ d key (drop (i + 1) KEYS) can written)

pub returns-clause-line : goal.returns-clause-line
returns-clause-line c =
    let entry = form_entry c.args.entry.now in
    let d = object_of c.args.number entry in
    let none = drop_all c.loop-key.key-index KEYS (omega (arith, c.loop-key-test.false)) in
    let written = subst (IsWritten c.loop-key.line.items c.loop-key.before d) none c.loop-key.invariant in
    c.in_ok-push_bytes.ensures.ok ∙ written_line _ _ d (object_has_all_keys c.args.number entry) written

pub returns-clause-reads_back : goal.returns-clause-reads_back
returns-clause-reads_back c =
    let entry = form_entry c.args.entry.now in
    let d = object_of c.args.number entry in
    let none = drop_all c.loop-key.key-index KEYS (omega (arith, c.loop-key-test.false)) in
    let written = subst (IsWritten c.loop-key.line.items c.loop-key.before d) none c.loop-key.invariant in
    written_reads_back _ _ d (object_has_all_keys c.args.number entry) (entry_is_shallow c.args.number entry) written
