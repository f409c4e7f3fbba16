use Rattle.std.proofs.Common.{◌≡◌, ◌+◌, ◌^◌, ◌++◌, length, take, refl, sym, ◌∙◌, ap, subst, arith}
use Rattle.std.specs.Prelude.{IfSome}
use Rattle.std.proofs.lemmas.List.{length-take}
use Rattle.lol_tags.specs.declared.reader.TagReader.{TagReader}
use Rattle.lol_page.proofs.Tape.{part-read, room-of, long-chunk, short-chunk, holds-tag, next-holds, next-kept}
use Rattle.lol_page.proofs.kept_tags.KeptTags.next.Goals as goal

pub overflow_sub-fits : goal.overflow_sub-fits
overflow_sub-fits c =
    let k = c.args.self.now in
    let part = take c.in-Ok.read.taken c.args.chunk.now in
    let p = part-read c.unfinished_tags_are_kept.ensures.after c.unfinished_tags_are_kept.ensures.tags c.unfinished_tags_go_on.ensures.begins
    c.unfinished_tags_go_on.ensures.ends k part c.in-Ok.read.tag c.next.new.self c.requires c.in-Ok.ensures.after c.in-Ok.ensures.tags c.in-Ok.ensures.last in
    omega (arith, p.within, c.start-start.ensures, c.place.ensures)

pub is_long-requires : goal.is_long-requires
is_long-requires c =
    let k = c.args.self.now in
    let part = take c.in-Ok.read.taken c.args.chunk.now in
    let p = part-read c.unfinished_tags_are_kept.ensures.after c.unfinished_tags_are_kept.ensures.tags c.unfinished_tags_go_on.ensures.begins
    c.unfinished_tags_go_on.ensures.ends k part c.in-Ok.read.tag c.next.new.self c.requires c.in-Ok.ensures.after c.in-Ok.ensures.tags c.in-Ok.ensures.last in
    p.ordered

pub returns-then-is_long-clause-tag_too_long : goal.returns-then-is_long-clause-tag_too_long
returns-then-is_long-clause-tag_too_long c = λ _.
    (room-of (2 ^ 64) (c.args.self.now.reader.at + length c.args.chunk.now) c.in-Ok.ensures.too_long.1, long-chunk c.args.self.now.limit c.args.self.now.reader c.in-Ok.read.taken c.args.chunk.now c.in-Ok.read.tag c.in-Ok.ensures.tags (c.if-is_long.ensures.0 refl))

pub keep-requires-clause-inside : goal.keep-requires-clause-inside
keep-requires-clause-inside c =
    let k = c.args.self.now in
    let part = take c.in-Ok.read.taken c.args.chunk.now in
    let p = part-read c.unfinished_tags_are_kept.ensures.after c.unfinished_tags_are_kept.ensures.tags c.unfinished_tags_go_on.ensures.begins
    c.unfinished_tags_go_on.ensures.ends k part c.in-Ok.read.tag c.next.new.self c.requires c.in-Ok.ensures.after c.in-Ok.ensures.tags c.in-Ok.ensures.last in
    omega (arith, p.within, p.at, c.start-start.ensures, c.place-begun.ensures)

pub keep-requires-clause-lines : goal.keep-requires-clause-lines
keep-requires-clause-lines c =
    let k = c.args.self.now in
    let part = take c.in-Ok.read.taken c.args.chunk.now in
    let p = part-read c.unfinished_tags_are_kept.ensures.after c.unfinished_tags_are_kept.ensures.tags c.unfinished_tags_go_on.ensures.begins
    c.unfinished_tags_go_on.ensures.ends k part c.in-Ok.read.tag c.next.new.self c.requires c.in-Ok.ensures.after c.in-Ok.ensures.tags c.in-Ok.ensures.last in
    let room = room-of (2 ^ 64) (k.reader.at + length c.args.chunk.now) c.in-Ok.ensures.too_long.1 in
    omega (arith, room, p.lines, length-take c.in-Ok.read.taken c.args.chunk.now, c.in-Ok.ensures.within)

pub keep-requires-clause-columns : goal.keep-requires-clause-columns
keep-requires-clause-columns c =
    let k = c.args.self.now in
    let part = take c.in-Ok.read.taken c.args.chunk.now in
    let p = part-read c.unfinished_tags_are_kept.ensures.after c.unfinished_tags_are_kept.ensures.tags c.unfinished_tags_go_on.ensures.begins
    c.unfinished_tags_go_on.ensures.ends k part c.in-Ok.read.tag c.next.new.self c.requires c.in-Ok.ensures.after c.in-Ok.ensures.tags c.in-Ok.ensures.last in
    let room = room-of (2 ^ 64) (k.reader.at + length c.args.chunk.now) c.in-Ok.ensures.too_long.1 in
    omega (arith, room, p.columns, length-take c.in-Ok.read.taken c.args.chunk.now, c.in-Ok.ensures.within)

pub returns-in-Ok-keep-clause-short : goal.returns-in-Ok-keep-clause-short
returns-in-Ok-keep-clause-short c =
    short-chunk c.args.self.now.limit c.args.self.now.reader c.in-Ok.read.taken c.args.chunk.now c.in-Ok.read.tag c.in-Ok.ensures.tags c.in-Ok.ensures.whole
    (λ l. absurd (let x = c.if-is_long.ensures.1 l in cc))

pub returns-in-Err-keep-clause-memory : goal.returns-in-Err-keep-clause-memory
returns-in-Err-keep-clause-memory c = λ _. (
  room-of (2 ^ 64) (c.args.self.now.reader.at + length c.args.chunk.now) c.in-Ok.ensures.too_long.1,
  short-chunk c.args.self.now.limit c.args.self.now.reader c.in-Ok.read.taken c.args.chunk.now c.in-Ok.read.tag c.in-Ok.ensures.tags c.in-Ok.ensures.whole
      (λ l. absurd (let x = c.if-is_long.ensures.1 l in cc)),
)

pub returns-in-Ok-keep-clause-kept : goal.returns-in-Ok-keep-clause-kept
returns-in-Ok-keep-clause-kept c =
    let k = c.args.self.now in
    let part = take c.in-Ok.read.taken c.args.chunk.now in
    let p = part-read c.unfinished_tags_are_kept.ensures.after c.unfinished_tags_are_kept.ensures.tags c.unfinished_tags_go_on.ensures.begins
    c.unfinished_tags_go_on.ensures.ends k part c.in-Ok.read.tag c.next.new.self c.requires c.in-Ok.ensures.after c.in-Ok.ensures.tags c.in-Ok.ensures.last in
    let holds = next-holds k c.keep.new.self part c.in-Ok.read.tag c.next.new.self c.place-begun.result c.place.result c.start-start.result c.requires p
    c.place-begun.ensures c.place.ensures c.start-start.ensures c.in-Ok-keep.ensures.read c.keep.ensures.limit c.keep.ensures.reader
    (c.in-Ok-keep.ensures.goes_on, c.in-Ok-keep.ensures.begins) in
    next-kept k c.keep.new.self part c.in-Ok.read.tag c.next.new.self c.requires p c.in-Ok.ensures.after c.in-Ok-keep.ensures.read c.keep.ensures.reader
    c.in-Ok-keep.ensures.at holds

pub returns-in-Ok-keep-clause-holds : goal.returns-in-Ok-keep-clause-holds
returns-in-Ok-keep-clause-holds c =
    let k = c.args.self.now in
    let part = take c.in-Ok.read.taken c.args.chunk.now in
    let p = part-read c.unfinished_tags_are_kept.ensures.after c.unfinished_tags_are_kept.ensures.tags c.unfinished_tags_go_on.ensures.begins
    c.unfinished_tags_go_on.ensures.ends k part c.in-Ok.read.tag c.next.new.self c.requires c.in-Ok.ensures.after c.in-Ok.ensures.tags c.in-Ok.ensures.last in
    let holds = next-holds k c.keep.new.self part c.in-Ok.read.tag c.next.new.self c.place-begun.result c.place.result c.start-start.result c.requires p
    c.place-begun.ensures c.place.ensures c.start-start.ensures c.in-Ok-keep.ensures.read c.keep.ensures.limit c.keep.ensures.reader
    (c.in-Ok-keep.ensures.goes_on, c.in-Ok-keep.ensures.begins) in
    holds-tag c.keep.new.self (k.past.read ++ part) c.in-Ok.read.tag k.limit c.in-Ok-keep.ensures.read c.keep.ensures.limit
    (ap (λ (r : TagReader). r.at) c.keep.ensures.reader ∙ p.has.at) p.stands
    (subst (λ (r : TagReader). IfSome c.in-Ok.read.tag (λ tag. tag.end ≡ r.at)) (sym c.keep.ensures.reader) c.in-Ok.ensures.last) holds
    (λ l. absurd (let x = c.if-is_long.ensures.1 l in cc))

pub returns-in-Ok-keep-clause-room : goal.returns-in-Ok-keep-clause-room
returns-in-Ok-keep-clause-room c =
    let k = c.args.self.now in
    let part = take c.in-Ok.read.taken c.args.chunk.now in
    let p = part-read c.unfinished_tags_are_kept.ensures.after c.unfinished_tags_are_kept.ensures.tags c.unfinished_tags_go_on.ensures.begins
    c.unfinished_tags_go_on.ensures.ends k part c.in-Ok.read.tag c.next.new.self c.requires c.in-Ok.ensures.after c.in-Ok.ensures.tags c.in-Ok.ensures.last in
    let room = room-of (2 ^ 64) (k.reader.at + length c.args.chunk.now) c.in-Ok.ensures.too_long.1 in
    omega (arith, room, p.at, ap (λ (r : TagReader). r.at) c.keep.ensures.reader, length-take c.in-Ok.read.taken c.args.chunk.now, c.in-Ok.ensures.within)
