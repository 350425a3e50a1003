use Rattle.std.proofs.Common.{◌+◌, length, ap, sym, inl, inr}
use Rattle.mach_base.specs.Fault.{too_big}
use Rattle.mach_load.specs.Variants.{command_of}
use Rattle.mach_records.specs.LoadCommandHeader.{header_values}
use Rattle.mach_load.proofs.CommandFronts.{command_found}
use Rattle.mach_load.proofs.CommandSizes.{cmdsize_is}
use Rattle.mach_load.proofs.Threads.{no_thread_by, thread_or_refused, refused_size, refused_record}
use Rattle.mach_load.proofs.load_command.LoadCommand.quick.Goals as goal

pub returns-then-header-eq-LC_THREAD-clause-none : goal.returns-then-header-eq-LC_THREAD-clause-none
returns-then-header-eq-LC_THREAD-clause-none c =
    thread_or_refused c.args.le c.args.bytes.now c.rest_at-rest.result.now c.args.offset.now c.if-place-bytes.false c.rest_at-rest.ensures
    c.in-Some.header c.in-Some.ensures.ok (elim c.then-header-eq-LC_THREAD.either [ inl four ↦ inl four | inr five ↦ inr five.1 ])

pub returns-then-header-rest-clause-none : goal.returns-then-header-rest-clause-none
returns-then-header-rest-clause-none c =
    refused_size c.args.le c.args.bytes.now c.rest_at-rest.result.now c.args.offset.now c.if-place-bytes.false c.rest_at-rest.ensures
    c.in-Some.header c.in-Some.ensures.ok c.if-header-rest.true

pub returns-in_default-quick-clause-none : goal.returns-in_default-quick-clause-none
returns-in_default-quick-clause-none c =
    refused_record c.args.le c.args.bytes.now c.rest_at-rest.result.now c.args.offset.now c.if-place-bytes.false c.rest_at-rest.ensures
    c.in-Some.header c.in-Some.ensures.ok (too_big c.quick.new.lacking (length c.rest_at-rest.result.now)) c.in_default-quick.ensures.err

pub returns-clause-found : goal.returns-clause-found
returns-clause-found c =
    command_found c.args.le c.args.bytes.now c.rest_at-rest.result.now c.args.offset.now c.in-Some.header c.in-Some-quick.command
    c.if-place-bytes.false c.rest_at-rest.ensures c.in-Some.ensures.ok c.if-header-rest.false c.in-Some-quick.ensures.ok

pub returns-clause-moved : goal.returns-clause-moved
returns-clause-moved c =
    let header = c.in-Some.header in
    let command = command_of (record { offset = 0; command = c.in-Some-quick.command }) in
    ap (λ n. c.args.offset.now + n)
    (cmdsize_is c.args.le c.rest_at-rest.result.now 0 header.cmd (header_values header) command c.in-Some.ensures.ok c.in-Some-quick.ensures.ok)

pub returns-clause-no_thread : goal.returns-clause-no_thread
returns-clause-no_thread c =
    let command = command_of (record { offset = 0; command = c.in-Some-quick.command }) in
    no_thread_by c.args.le c.rest_at-rest.result.now 0 c.in-Some.header.cmd command
    (λ is. c.if-header-eq-LC_THREAD.false (sym is)) (λ is. c.if-header-eq-LC_UNIXTHREAD.false (sym is)) c.in-Some-quick.ensures.ok
