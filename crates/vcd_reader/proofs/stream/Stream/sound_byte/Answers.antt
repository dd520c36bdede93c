use Rattle.std.proofs.Common.{◌≡◌, ◌+◌, sym, ◌∙◌, ap, subst, true, false, rules}
use Rattle.std.specs.List.{fold}
use Rattle.vcd_reader.specs.declared.token.Token.{Token}
use Rattle.vcd_header.specs.declared.signals.Signals.{Signals}
use Rattle.vcd_reader.specs.White.{is_white}
use Rattle.vcd_reader.specs.Tokens.{begun, ended, last_open, with_byte}
use Rattle.vcd_reader.specs.Dumps.{after_token, after_tokens, reading_of}
use Rattle.vcd_reader.specs.Readings.{Reading}
use Rattle.vcd_reader.specs.Reads.{Reads}
use Rattle.vcd_reader.proofs.Pieces.{after_tokens-append, count-more, ended-dark, ended-white, last_open-dark, last_open-fresh}
use Rattle.vcd_reader.proofs.stream.Stream.sound_byte.Goals as goal

pub returns-in_ok-push-clause-ok : goal.returns-in_ok-push-clause-ok
returns-in_ok-push-clause-ok c = λ wanted watch handed bytes s sound.
    let dark : is_white c.args.b ≡ false = search rules in
    let P : Reading → Type 0 = λ r. Reads watch handed c.args.self.now.waiting c.args.self.now.machine r in
    let follows = s.sound sound in
    record {
      names = s.names;
      tokens = subst P (sym (ap (after_tokens wanted) (ended-dark bytes c.args.b dark))) s.tokens;
      sound = λ none. record {
        run = c.in_ok-push.ensures.ok ∙ ap (λ (t : Token). with_byte t c.args.b) follows.run ∙ sym (last_open-dark bytes c.args.b dark);
        count = count-more bytes c.args.b _ follows.count;
      };
    }

pub returns-in_ok-end_token-clause-ok : goal.returns-in_ok-end_token-clause-ok
returns-in_ok-end_token-clause-ok c = λ wanted watch handed bytes s sound.
    let white : is_white c.args.b ≡ true = search rules in
    let P : Reading → Type 0 = λ r. Reads watch handed c.end_token.new.self.waiting c.end_token.new.self.machine r in
    let follows = s.sound sound in
    let same_reading = ap (λ (n : Signals). fold (after_token n) (reading_of wanted bytes) (begun c.args.self.now.run)) s.names
    ∙ ap (λ (t : Token). fold (after_token wanted) (reading_of wanted bytes) (begun t)) follows.run
    ∙ sym (after_tokens-append wanted (ended bytes) (begun (last_open bytes)))
    ∙ sym (ap (after_tokens wanted) (ended-white bytes c.args.b white)) in
    let count = ap (λ n. n + 1) c.end_token.ensures.count ∙ count-more bytes c.args.b _ follows.count in
    record {
      names = c.end_token.ensures.names ∙ s.names;
      tokens = subst P same_reading (c.in_ok-end_token.ensures.ok watch handed (reading_of wanted bytes) s.tokens);
      sound = λ none. record {
        run = c.restart.ensures ∙ last_open-fresh bytes c.args.b _ white count;
        count = count;
      };
    }
