use Rattle.std.proofs.Common.{◌≡◌, ap, ◌∙◌}
use Rattle.line_words.specs.Blanks.{word_here, behind_word, after_blanks}
use Rattle.device_uri.specs.declared.line.DeviceLine.{DeviceLine}
use Rattle.device_uri.specs.declared.line.LineFault.TheVariants.{BadLine}
use Rattle.device_uri.proofs.LineLaws.{no_class, no_uri, no_fields, all_there, same_fault}
use Rattle.device_uri.proofs.line.read_device_line.Goals as goal

pub returns-in-Err-clause-bad : goal.returns-in-Err-clause-bad
returns-in-Err-clause-bad c = λ bad.
    let line = c.args.line.now in
    let first : c.split_at_blank.result.0.now ≡ word_here line = c.split_at_blank.ensures.word ∙ ap word_here c.as_bytes.ensures.value in
    let behind : c.after_blanks.result.now ≡ after_blanks (behind_word line) = c.after_blanks.ensures.value ∙ ap after_blanks (c.split_at_blank.ensures.rest ∙ ap behind_word c.as_bytes.ensures.value) in
    let second : c.split_at_blank-2.result.0.now ≡ word_here (after_blanks (behind_word line)) = c.split_at_blank-2.ensures.word ∙ ap word_here behind in
    let rest : c.split_at_blank-2.result.1.now ≡ behind_word (after_blanks (behind_word line)) = c.split_at_blank-2.ensures.rest ∙ ap behind_word behind in
    no_class line c.split_at_blank.result.0.now c.split_at_blank-2.result.0.now c.split_at_blank-2.result.1.now first second rest (c.in-Err.ensures.bad (same_fault c.in-Err.fault BadLine bad))

pub returns-in-Err-read_bare_uri-clause-bad : goal.returns-in-Err-read_bare_uri-clause-bad
returns-in-Err-read_bare_uri-clause-bad c = λ bad.
    let line = c.args.line.now in
    let first : c.split_at_blank.result.0.now ≡ word_here line = c.split_at_blank.ensures.word ∙ ap word_here c.as_bytes.ensures.value in
    let behind : c.after_blanks.result.now ≡ after_blanks (behind_word line) = c.after_blanks.ensures.value ∙ ap after_blanks (c.split_at_blank.ensures.rest ∙ ap behind_word c.as_bytes.ensures.value) in
    let second : c.split_at_blank-2.result.0.now ≡ word_here (after_blanks (behind_word line)) = c.split_at_blank-2.ensures.word ∙ ap word_here behind in
    let rest : c.split_at_blank-2.result.1.now ≡ behind_word (after_blanks (behind_word line)) = c.split_at_blank-2.ensures.rest ∙ ap behind_word behind in
    no_uri line c.split_at_blank.result.0.now c.split_at_blank-2.result.0.now c.split_at_blank-2.result.1.now first second rest (c.in-Err-read_bare_uri.ensures.bad (same_fault c.in-Err-read_bare_uri.fault BadLine bad))

pub returns-in-Err-read_fields-clause-bad : goal.returns-in-Err-read_fields-clause-bad
returns-in-Err-read_fields-clause-bad c = λ bad.
    let line = c.args.line.now in
    let first : c.split_at_blank.result.0.now ≡ word_here line = c.split_at_blank.ensures.word ∙ ap word_here c.as_bytes.ensures.value in
    let behind : c.after_blanks.result.now ≡ after_blanks (behind_word line) = c.after_blanks.ensures.value ∙ ap after_blanks (c.split_at_blank.ensures.rest ∙ ap behind_word c.as_bytes.ensures.value) in
    let second : c.split_at_blank-2.result.0.now ≡ word_here (after_blanks (behind_word line)) = c.split_at_blank-2.ensures.word ∙ ap word_here behind in
    let rest : c.split_at_blank-2.result.1.now ≡ behind_word (after_blanks (behind_word line)) = c.split_at_blank-2.ensures.rest ∙ ap behind_word behind in
    no_fields line c.split_at_blank.result.0.now c.split_at_blank-2.result.0.now c.split_at_blank-2.result.1.now first second rest (c.in-Err-read_fields.ensures.bad (same_fault c.in-Err-read_fields.fault BadLine bad))

pub returns-clause-value : goal.returns-clause-value
returns-clause-value c =
    let line = c.args.line.now in
    let first : c.split_at_blank.result.0.now ≡ word_here line = c.split_at_blank.ensures.word ∙ ap word_here c.as_bytes.ensures.value in
    let behind : c.after_blanks.result.now ≡ after_blanks (behind_word line) = c.after_blanks.ensures.value ∙ ap after_blanks (c.split_at_blank.ensures.rest ∙ ap behind_word c.as_bytes.ensures.value) in
    let second : c.split_at_blank-2.result.0.now ≡ word_here (after_blanks (behind_word line)) = c.split_at_blank-2.ensures.word ∙ ap word_here behind in
    let rest : c.split_at_blank-2.result.1.now ≡ behind_word (after_blanks (behind_word line)) = c.split_at_blank-2.ensures.rest ∙ ap behind_word behind in
    let fields : DeviceLine = record {
      class = c.in-Ok.class;
      uri = c.in-Ok-read_bare_uri.uri;
      make = c.in-Ok-read_fields.fields.make;
      info = c.in-Ok-read_fields.fields.info;
      id = c.in-Ok-read_fields.fields.id;
      location = c.in-Ok-read_fields.fields.location;
    } in
    all_there line c.split_at_blank.result.0.now c.split_at_blank-2.result.0.now c.split_at_blank-2.result.1.now first second rest fields
    c.in-Ok.ensures.value c.in-Ok-read_bare_uri.ensures.value c.in-Ok.ensures.allowed c.in-Ok-read_bare_uri.ensures.allowed c.in-Ok-read_fields.ensures.value
