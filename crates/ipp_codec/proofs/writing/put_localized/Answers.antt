use Rattle.ipp_codec.proofs.Utf8.{text_is}
use Rattle.ipp_codec.proofs.writing.put_localized.Goals as goal

pub returns-in_err-put-clause-language : goal.returns-in_err-put-clause-language
returns-in_err-put-clause-language g c = text_is 0 63 127 c.as_str.result.now c.args.language.now c.as_str.ensures.value c.as_str.utf8 c.as_str.ensures.allowed

pub returns-in_err-put-clause-text : goal.returns-in_err-put-clause-text
returns-in_err-put-clause-text g c = text_is _ _ _ c.as_str-2.result.now c.args.text.now c.as_str-2.ensures.value c.as_str-2.utf8 c.as_str-2.ensures.allowed

pub returns-in_err-put_text-clause-text : goal.returns-in_err-put_text-clause-text
returns-in_err-put_text-clause-text g c = text_is _ _ _ c.as_str-2.result.now c.args.text.now c.as_str-2.ensures.value c.as_str-2.utf8 c.as_str-2.ensures.allowed
