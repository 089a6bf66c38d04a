use Rattle.std.proofs.Common.{◌≡◌, ◌≢◌, ◌∙◌, inr, ap, subst, ℕ, List, [], length, take, arith}
use Rattle.std.proofs.lemmas.List.{take_all}
use Rattle.csi_streams.specs.Public.State.{State}
use Rattle.csi_streams.proofs.lines.Lines.end.Goals as goal

-- as many bytes as there are, from the front, are all
all_of : (line buffer : List ℕ) (len : ℕ) → line ≡ take len buffer → len ≡ length buffer → line ≡ buffer
all_of line buffer len is many = is ∙ take_all len buffer (omega (arith, many))

-- where their length isn't 0 there are some
some_of : (buffer : List ℕ) (len : ℕ) → len ≡ length buffer → len ≢ 0 → buffer ≢ []
some_of buffer len many some = λ none. some (many ∙ ap length none)

-- what was handled is what was left, under its number
handled_all : {A : Type 0} (handles : A → ℕ → List ℕ → A → Type 0) (before mid : A) (number n : ℕ) (line buffer : List ℕ) → n ≡ number → line ≡ buffer → handles before n line mid → handles before number buffer mid
handled_all handles before mid number n line buffer same is did = subst (λ (k : ℕ). handles before k buffer mid) same (subst (λ (bytes : List ℕ). handles before n bytes mid) is did)

pub returns-in-Ok-flush : goal.returns-in-Ok-flush
returns-in-Ok-flush g c =
    let old = c.args.self.now in
    let before : State g.row.H.Denot g.row.S.Denot g.row.O.Denot = record { own = old.handler; store = c.args.store.now; out = c.args.out.now } in
    let mid : State g.row.H.Denot g.row.S.Denot g.row.O.Denot = record { own = c.handle.new.self; store = c.handle.new.store; out = c.handle.new.out } in
    inr (
      mid,
      some_of old.buffer c.len-len.result c.len-len.ensures (λ none. omega (arith, none)),
      c.saturating_add-number.ensures,
      handled_all g.H.LineHandler.handles before mid _ c.saturating_add-number.result c.first.result.now old.buffer c.saturating_add-number.ensures (all_of c.first.result.now old.buffer c.len-len.result c.first.ensures c.len-len.ensures) c.in-Ok.ensures.ok,
      c.in-Ok-flush.ensures.ok,
      c.in-Ok-flush.ensures.flushed,
    )

pub returns-in-Err-flush : goal.returns-in-Err-flush
returns-in-Err-flush g c =
    let old = c.args.self.now in
    let before : State g.row.H.Denot g.row.S.Denot g.row.O.Denot = record { own = old.handler; store = c.args.store.now; out = c.args.out.now } in
    let mid : State g.row.H.Denot g.row.S.Denot g.row.O.Denot = record { own = c.handle.new.self; store = c.handle.new.store; out = c.handle.new.out } in
    inr (
      mid,
      some_of old.buffer c.len-len.result c.len-len.ensures (λ none. omega (arith, none)),
      c.saturating_add-number.ensures,
      handled_all g.H.LineHandler.handles before mid _ c.saturating_add-number.result c.first.result.now old.buffer c.saturating_add-number.ensures (all_of c.first.result.now old.buffer c.len-len.result c.first.ensures c.len-len.ensures) c.in-Ok.ensures.ok,
      c.in-Err-flush.ensures.err,
    )
