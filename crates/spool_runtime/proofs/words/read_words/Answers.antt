use Rattle.std.proofs.Common.{◌≡◌, sym, subst, refl, codes, map, Option, length, lit≤, ◌≤◌}
use Rattle.std.specs.Prelude.{IfSome, option_map}
use Rattle.clap.specs.Words.{App, Text, found_of}
use Rattle.clap.specs.Simple.{app_of}
use Rattle.clap.specs.declared.builder.command.Command.{Command}
use Rattle.clap.specs.declared.parser.matches.ArgMatches.{ArgMatches}
use Rattle.spool_runtime.specs.ProgramArguments.{AreFaultlessFor, AreTaken, HasNumberIn, PassParsers, is_told, number_or, root_in, shell_app}
use Rattle.spool_runtime.proofs.Accepted.{has_flag, has_number, one_found, text_found, wider}
use Rattle.spool_runtime.proofs.Refusals.{is_not_short, is_short, refuses}
use Rattle.spool_runtime.proofs.words.read_words.Goals as goal

-- The number BYTES, if it was found, is in its range.
has_size : (command : Command) (m : ArgMatches) → app_of command ≡ shell_app → PassParsers (app_of command) m → HasNumberIn 4096 1073741824 (codes "size") m
has_size command m is pass =
    has_number shell_app m (codes "size") 4096 1073741824 (subst (λ (a : App). PassParsers a m) is pass) (λ none. cc) (refl, refl)

pub returns-then-is_long-clause-taken : goal.returns-then-is_long-clause-taken
returns-then-is_long-clause-taken g c =
    let words = map g.S.AsStr.text c.args.words.now in
    let root_is : option_map (λ dir. dir.now) c.get_str-root.result ≡ root_in words =
    text_found shell_app (app_of c.in-Ok.command) words (found_of c.in-Ok-parse.matches) (codes "root") c.get_str-root.result c.get_str-root.ensures
    c.in-Ok-parse.ensures.found c.in-Ok.ensures in
    refuses (AreTaken words) c.long_root.result (λ taken. is_not_short c.get_str-root.result (c.is_long.ensures.0 c.if-is_long.true)
    (subst (λ (root : Option Text). IfSome root (λ dir. length dir ≤ 64)) (sym root_is) taken.1))

pub number_given-requires : goal.number_given-requires
number_given-requires g c =
    let m = c.in-Ok-parse.matches in
    wider m (codes "size") 4096 1073741824 0 18446744073709551615 (lit≤ tt) (lit≤ tt) (has_size c.in-Ok.command m c.in-Ok.ensures c.in-Ok-parse.ensures.pass)

pub flag_given-reserve-requires : goal.flag_given-reserve-requires
flag_given-reserve-requires g c =
    let m = c.in-Ok-parse.matches in
    has_flag shell_app m (codes "reserve") (subst (λ (a : App). PassParsers a m) c.in-Ok.ensures c.in-Ok-parse.ensures.pass) (λ none. cc) (refl, refl)

pub flag_given-requires : goal.flag_given-requires
flag_given-requires g c =
    let m = c.in-Ok-parse.matches in
    has_flag shell_app m (codes "devices") (subst (λ (a : App). PassParsers a m) c.in-Ok.ensures c.in-Ok-parse.ensures.pass) (λ none. cc) (refl, refl)

pub returns-clause-root : goal.returns-clause-root
returns-clause-root g c =
    text_found shell_app (app_of c.in-Ok.command) (map g.S.AsStr.text c.args.words.now) (found_of c.in-Ok-parse.matches) (codes "root") c.get_str-root.result
    c.get_str-root.ensures c.in-Ok-parse.ensures.found c.in-Ok.ensures

pub returns-clause-types : goal.returns-clause-types
returns-clause-types g c =
    text_found shell_app (app_of c.in-Ok.command) (map g.S.AsStr.text c.args.words.now) (found_of c.in-Ok-parse.matches) (codes "types") c.get_str-types.result
    c.get_str-types.ensures c.in-Ok-parse.ensures.found c.in-Ok.ensures

pub returns-clause-convs : goal.returns-clause-convs
returns-clause-convs g c =
    text_found shell_app (app_of c.in-Ok.command) (map g.S.AsStr.text c.args.words.now) (found_of c.in-Ok-parse.matches) (codes "convs") c.get_str-convs.result
    c.get_str-convs.ensures c.in-Ok-parse.ensures.found c.in-Ok.ensures

pub returns-clause-programs : goal.returns-clause-programs
returns-clause-programs g c =
    text_found shell_app (app_of c.in-Ok.command) (map g.S.AsStr.text c.args.words.now) (found_of c.in-Ok-parse.matches) (codes "programs") c.get_str-programs.result
    c.get_str-programs.ensures c.in-Ok-parse.ensures.found c.in-Ok.ensures

pub returns-clause-size : goal.returns-clause-size
returns-clause-size g c =
    one_found (number_or 4194304) shell_app (app_of c.in-Ok.command) (map g.S.AsStr.text c.args.words.now) (found_of c.in-Ok-parse.matches) (codes "size")
    c.number_given.result c.number_given.ensures.number c.in-Ok-parse.ensures.found c.in-Ok.ensures

pub returns-clause-reserve : goal.returns-clause-reserve
returns-clause-reserve g c =
    one_found is_told shell_app (app_of c.in-Ok.command) (map g.S.AsStr.text c.args.words.now) (found_of c.in-Ok-parse.matches) (codes "reserve")
    c.flag_given-reserve.result c.flag_given-reserve.ensures c.in-Ok-parse.ensures.found c.in-Ok.ensures

pub returns-clause-devices : goal.returns-clause-devices
returns-clause-devices g c =
    one_found is_told shell_app (app_of c.in-Ok.command) (map g.S.AsStr.text c.args.words.now) (found_of c.in-Ok-parse.matches) (codes "devices")
    c.flag_given.result c.flag_given.ensures c.in-Ok-parse.ensures.found c.in-Ok.ensures

pub returns-clause-size_in_range : goal.returns-clause-size_in_range
returns-clause-size_in_range g c =
    c.number_given.ensures.in_range 4096 1073741824 (has_size c.in-Ok.command c.in-Ok-parse.matches c.in-Ok.ensures c.in-Ok-parse.ensures.pass) (lit≤ tt) (lit≤ tt)

pub returns-clause-taken : goal.returns-clause-taken
returns-clause-taken g c =
    let words = map g.S.AsStr.text c.args.words.now in
    let root_is : option_map (λ dir. dir.now) c.get_str-root.result ≡ root_in words =
    text_found shell_app (app_of c.in-Ok.command) words (found_of c.in-Ok-parse.matches) (codes "root") c.get_str-root.result c.get_str-root.ensures
    c.in-Ok-parse.ensures.found c.in-Ok.ensures in (
      subst (λ (a : App). AreFaultlessFor a words) c.in-Ok.ensures c.in-Ok-parse.ensures.taken,
      subst (λ (root : Option Text). IfSome root (λ dir. length dir ≤ 64)) root_is (is_short c.get_str-root.result c.is_long.result c.is_long.ensures c.if-is_long.false),
    )
